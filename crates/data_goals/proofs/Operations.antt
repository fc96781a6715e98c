-- The law of goals, operation by operation.
use Rattle.std.proofs.Common.{◌≡◌, ◌↔◌, ℕ, Bool, true, refl, inl, inr, List}
use Rattle.rv_isa.specs.declared.operation.Op.{Op}
use Rattle.rv_isa.specs.declared.operation.Op.TheVariants.{Lb, Lh, Lw, Lbu, Lhu, Sb, Sh, Sw}
use Rattle.rv_isa.specs.Table.{row_of}
use Rattle.rv_script.specs.Folds.{Entry}
use Rattle.addr_rows.specs.Walks.{EntryRow}
use Rattle.tpl_ast.specs.declared.template.Atom.{Atom}
use Rattle.leaf_link.specs.Turns.{Turn}
use Rattle.rv_isa.specs.Fields.{has_address}
use Rattle.leaf_link.specs.Values.{Values}
use Rattle.leaf_link.specs.AllWays.{ways_of}
use Rattle.leaf_link.specs.Ways.{HasWay}
use Rattle.data_goals.specs.declared.accesses.Accesses.{Accesses}
use Rattle.data_goals.specs.Goals.{goal_ways}
use Rattle.data_goals.specs.Laws.{GoalsAreWays, IsDataStep, WaysAreGoals}
use Rattle.data_goals.proofs.Freedom.{load_access, store_access}
use Rattle.data_goals.proofs.Ways.{as_goals}

-- the law of an operation at a step
abbrev IsLaw : Turn → List Entry → ℕ → Accesses → List EntryRow → List EntryRow → List Atom → Op → Values → ℕ → Bool → Type 0
IsLaw t walk pa a loads stores leaf op x outcome reaches = HasWay op (ways_of t walk pa leaf loads stores op) x outcome reaches ↔ HasWay op (goal_ways t a leaf op) x outcome reaches

ways_and_goals : (t : Turn) (walk : List Entry) (pa : ℕ) (a : Accesses) (loads stores : List EntryRow) (leaf : List Atom) (op : Op) (x : Values) (outcome : ℕ) (reaches : Bool) → IsDataStep t walk pa a loads stores op x outcome → has_address (row_of op) ≡ true → IsLaw t walk pa a loads stores leaf op x outcome reaches
ways_and_goals t walk pa a loads stores leaf Lb x o r s h = as_goals t walk pa a leaf Lb _ _ _ _ loads (load_access t walk pa a s.accesses Lb refl (inl refl)) s.accesses s.code s.load_rows s.accesses.loads refl (record { root = refl; second = refl }) x s.small o r s.page
ways_and_goals t walk pa a loads stores leaf Lh x o r s h = as_goals t walk pa a leaf Lh _ _ _ _ loads (load_access t walk pa a s.accesses Lh refl (inr (inl refl))) s.accesses s.code s.load_rows s.accesses.loads refl (record { root = refl; second = refl }) x s.small o r s.page
ways_and_goals t walk pa a loads stores leaf Lw x o r s h = as_goals t walk pa a leaf Lw _ _ _ _ loads (load_access t walk pa a s.accesses Lw refl (inr (inr refl))) s.accesses s.code s.load_rows s.accesses.loads refl (record { root = refl; second = refl }) x s.small o r s.page
ways_and_goals t walk pa a loads stores leaf Lbu x o r s h = as_goals t walk pa a leaf Lbu _ _ _ _ loads (load_access t walk pa a s.accesses Lbu refl (inl refl)) s.accesses s.code s.load_rows s.accesses.loads refl (record { root = refl; second = refl }) x s.small o r s.page
ways_and_goals t walk pa a loads stores leaf Lhu x o r s h = as_goals t walk pa a leaf Lhu _ _ _ _ loads (load_access t walk pa a s.accesses Lhu refl (inr (inl refl))) s.accesses s.code s.load_rows s.accesses.loads refl (record { root = refl; second = refl }) x s.small o r s.page
ways_and_goals t walk pa a loads stores leaf Sb x o r s h = as_goals t walk pa a leaf Sb _ _ _ _ stores (store_access t walk pa a s.accesses s.fetched Sb refl (inl refl)) s.accesses s.code s.store_rows s.accesses.stores refl (record { root = refl; second = refl }) x s.small o r s.page
ways_and_goals t walk pa a loads stores leaf Sh x o r s h = as_goals t walk pa a leaf Sh _ _ _ _ stores (store_access t walk pa a s.accesses s.fetched Sh refl (inr (inl refl))) s.accesses s.code s.store_rows s.accesses.stores refl (record { root = refl; second = refl }) x s.small o r s.page
ways_and_goals t walk pa a loads stores leaf Sw x o r s h = as_goals t walk pa a leaf Sw _ _ _ _ stores (store_access t walk pa a s.accesses s.fetched Sw refl (inr (inr refl))) s.accesses s.code s.store_rows s.accesses.stores refl (record { root = refl; second = refl }) x s.small o r s.page
ways_and_goals t walk pa a loads stores leaf _ x o r s h = absurd (cc h)

pub ways_are_goals : WaysAreGoals
ways_are_goals t walk pa a loads stores leaf op x outcome reaches s w = (ways_and_goals t walk pa a loads stores leaf op x outcome reaches s s.addressed).0 w

pub goals_are_ways : GoalsAreWays
goals_are_ways t walk pa a loads stores leaf op x outcome reaches s w = (ways_and_goals t walk pa a loads stores leaf op x outcome reaches s s.addressed).1 w
