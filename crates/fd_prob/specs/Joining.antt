-- Several lists of rows as one.
use Rattle.std.specs.Prelude.{◌≡◌, ℕ, ◌≤◌, Bool, true, false, ◌&&◌, List, Option, Some, None, MatchOption, count_by}
use Rattle.std.specs.List.{list_any, list_all}
use Rattle.dom_set.specs.Elements.{is_in}
use Rattle.rv_isa.specs.declared.operation.Op.{Op}
use Rattle.fd_prob.specs.declared.problem.Assignment.{Assignment}
use Rattle.fd_prob.specs.declared.problem.Case.{Case}
use Rattle.fd_prob.specs.declared.relation.Quad.{Quad}
use Rattle.fd_prob.specs.declared.relation.Rel.{Rel}
use Rattle.fd_prob.specs.declared.relation.Rel.TheVariants.{Rows}
use Rattle.fd_prob.specs.Relations.{holds, is_in_row}

-- the relation is one of rows
abbrev pub is_rows : Rel → Bool
is_rows (Rows rows) = true
is_rows _ = false

-- what the two sets have in common, or None where that is nothing
abbrev pub IsCommonSet : List ℕ → List ℕ → Option (List ℕ) → Type 0
IsCommonSet a b o = MatchOption o ((v : ℕ) → (is_in a v && is_in b v) ≡ false) (λ s. (v : ℕ) → is_in s v ≡ (is_in a v && is_in b v))

-- the row, if there is one, holds
abbrev pub is_in_some_row : Assignment → Option Quad → Bool
is_in_some_row x None = false
is_in_some_row x (Some row) = is_in_row x row

-- it holds where both rows do
abbrev pub IsCommonRow : Quad → Quad → Option Quad → Type 0
IsCommonRow a b o = (x : Assignment) → is_in_some_row x o ≡ (is_in_row x a && is_in_row x b)

-- one of the rows holds where one of each list does
abbrev pub AreCommonRows : List Quad → List Quad → List Quad → Type 0
AreCommonRows firsts others rows = (x : Assignment) → list_any (is_in_row x) rows ≡ (list_any (is_in_row x) firsts && list_any (is_in_row x) others)

-- one of the rows holds, unless there is no list of them
abbrev pub some_row_holds : Assignment → Option (List Quad) → Bool
some_row_holds x None = true
some_row_holds x (Some rows) = list_any (is_in_row x) rows

-- the same case, but that other relations hold together where those of the case do, of which one at most is of rows
pub record IsRestated (c made : Case) : Type 0 where
  pub op : made.op ≡ c.op
  pub doms : made.doms ≡ c.doms
  pub rels : (op : Op) (x : Assignment) → list_all (holds op x) made.rels ≡ list_all (holds op x) c.rels
  pub few : count_by is_rows made.rels ≤ 1
