-- The greatest space that a leaf's problem can have.
use Rattle.std.specs.Prelude.{◌≡◌, ℕ, ◌≤◌, false, List}
use Rattle.sv_walk.specs.Translation.{is_translated}
use Rattle.rv_hart.specs.Machine.{data_view}
use Rattle.tpl_ast.specs.declared.template.Atom.{Atom}
use Rattle.leaf_link.specs.Turns.{Turn}
use Rattle.leaf_link.specs.Firsts.{leaf_space}

-- where data accesses are not translated: what all operations have with no field cut, and sources of 4,096 values, and all pages
abbrev pub greatest_space : ℕ
greatest_space = 46_292_649

abbrev pub SpaceIsBounded : Type 0
SpaceIsBounded = (t : Turn) (pa : ℕ) (leaf : List Atom) → is_translated (data_view t.fixed) ≡ false → leaf_space t pa leaf ≤ greatest_space
