-- What the atoms of a leaf let through.
use Rattle.std.specs.Prelude.{◌≡◌, ℕ, Bool, true, not, ◌&&◌, ◌||◌, if◌then◌else◌, List, [], ◌∷◌}
use Rattle.std.specs.List.{list_any}
use Rattle.dom_set.specs.Elements.{is_in}
use Rattle.rv_isa.specs.declared.operation.Op.{Op}
use Rattle.rv_isa.specs.declared.operation.TheConstants.{OPS}
use Rattle.rv_isa.specs.Numbers.{op_number}
use Rattle.tpl_ast.specs.declared.template.Atom.{Atom}
use Rattle.tpl_ast.specs.declared.template.Atom.TheVariants as atoms
use Rattle.tpl_ast.specs.declared.template.Var.{Var}
use Rattle.tpl_ast.specs.declared.template.Var.TheVariants as vars
use Rattle.tpl_ast.specs.declared.template.Wish.{Wish}
use Rattle.tpl_ast.specs.Leaves.{same_var}
use Rattle.leaf_stand.specs.declared.stand.Stand.{Stand}
use Rattle.leaf_stand.specs.Kinds.{kind_of}
use Rattle.leaf_stand.specs.Posed.{are_posable, has_accesses, is_data}
use Rattle.leaf_turn.specs.Wishes.{mandatory_of}

-- an atom lets a variable have this value; only sets are looked at
abbrev pub lets : Atom → Var → ℕ → Bool
lets (atoms.In v set) u n = if same_var v u then is_in set n else true
lets (atoms.NotIn v set) u n = if same_var v u then not (is_in set n) else true
lets (atoms.Is v name) u n = true
lets (atoms.Same v w) u n = true
lets (atoms.Differ v w) u n = true
lets atoms.Taken u n = true
lets atoms.NotTaken u n = true
lets atoms.Shared u n = true

-- so do all that have to hold
abbrev pub all_let : List Wish → Var → ℕ → Bool
all_let [] u n = true
all_let (w ∷ ws) u n = (w.prefer || lets w.atom u n) && all_let ws u n

-- the operation is a load or store, and let through
abbrev pub may_be_data : List Wish → Op → Bool
may_be_data ws op = is_data (kind_of op) && all_let ws vars.Op (op_number op)

abbrev pub lets_data : List Wish → Bool
lets_data ws = list_any (may_be_data ws) OPS

-- what a leaf asks for can be posed wherever a hart stands, where it is told what loads and stores may do if one is let through
abbrev pub LeavesWithAccessesArePosable : Type 0
LeavesWithAccessesArePosable = (ws : List Wish) (st : Stand) → (lets_data ws ≡ true → has_accesses st ≡ true) → are_posable st (mandatory_of ws) ≡ true
