-- What the lines so far have said.
use Rattle.std.specs.Prelude.{ℕ, if◌then◌else◌, ◌+◌, Bool, false, ◌||◌, List, [], ◌∷◌, Option, None, is_some}
use Rattle.std.specs.Str.{bytes_eq}
use Rattle.rv_csr.specs.declared.privilege.Priv.{Priv}
use Rattle.rv_csr.specs.declared.privilege.Priv.TheVariants.{M}
use Rattle.tpl_ast.specs.declared.template.NameDecl.{NameDecl}
use Rattle.tpl_ast.specs.declared.template.Region.{Region}
use Rattle.tpl_ast.specs.Bodies.{BodyLine, HartLines}
use Rattle.tpl_lang.specs.Sets.{NamedSet, find_set}

pub data Block : Type 0 where
  Whole : Block  -- the body itself
  Sequence : Block
  Times : ℕ → Block
  Choice : Block
  Alternative : ℕ → Block  -- its weight

-- a block that is open: its length so far, of a choice that of the longest alternative; of a choice how many alternatives are closed, and whether one of them has a weight
pub record OpenedBlock : Type 0 where
  pub block : Block
  pub length : ℕ
  pub ways : ℕ
  pub weighted : Bool

-- what may come next
pub data Place : Type 0 where
  Head : Place
  Begin : Place  -- a hart's start
  Settings : Place  -- its CSRs and registers, and then its body
  Inside : Place
  Ended : Place  -- the brace that ends the hart

pub record Known : Type 0 where
  pub place : Place
  pub ram : List Region
  pub pool : List ℕ
  pub tables : List ℕ
  pub flags : List ℕ
  pub vectors : Option (List ℕ)
  pub sets : List NamedSet
  pub names : List NameDecl
  -- the started words by ascending address
  pub words : List (ℕ × ℕ)
  pub harts : List HartLines
  pub length : ℕ  -- over all harts that are ended
  -- the hart that is open
  pub pc : ℕ
  pub privilege : Priv
  -- its CSRs and registers by ascending key
  pub given : List (ℕ × ℕ)
  pub body : List BodyLine
  -- its open blocks, innermost first
  pub blocks : List OpenedBlock

-- before the first line
abbrev pub nothing : Known
nothing = record {
  place = Head;
  ram = [];
  pool = [];
  tables = [];
  flags = [];
  vectors = None;
  sets = [];
  names = [];
  words = [];
  harts = [];
  length = 0;
  pc = 0;
  privilege = M;
  given = [];
  body = [];
  blocks = [];
}

-- ---- names

abbrev pub name_among : List NameDecl → List ℕ → Bool
name_among [] name = false
name_among (d ∷ ds) name = bytes_eq d.name name || name_among ds name

abbrev pub index_among : List NameDecl → List ℕ → ℕ
index_among [] name = 0
index_among (d ∷ ds) name = if bytes_eq d.name name then 0 else index_among ds name + 1

abbrev pub is_declared : Known → List ℕ → Bool
is_declared k name = is_some (find_set k.sets name) || name_among k.names name
