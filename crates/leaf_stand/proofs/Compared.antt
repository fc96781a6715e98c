-- Variables that are compared are those of problems.
use Rattle.std.proofs.Common.{◌≡◌, true, [], ◌∷◌, refl}
use Rattle.std.proofs.lemmas.Bool.{and_from}
use Rattle.tpl_ast.specs.declared.template.Atom.{Atom}
use Rattle.tpl_ast.specs.declared.template.Atom.TheVariants as atoms
use Rattle.tpl_ast.specs.declared.template.Var.{Var}
use Rattle.tpl_ast.specs.declared.template.Var.TheVariants as vars
use Rattle.tpl_ast.specs.Leaves.{are_comparable, IsPlain}
use Rattle.leaf_stand.specs.Laws.{LeavesAreBetween}
use Rattle.leaf_stand.specs.Relations.{has_slot, is_between, slot_of}

first_slot : (v u : Var) → are_comparable v u ≡ true → has_slot (slot_of v) ≡ true
first_slot vars.Pa u h = absurd (cc h)
first_slot vars.Target u h = absurd (cc h)
first_slot vars.Outcome u h = absurd (cc h)
first_slot _ u h = refl

second_slot : (v u : Var) → are_comparable v u ≡ true → has_slot (slot_of u) ≡ true
second_slot vars.Op vars.Pa h = absurd (cc h)
second_slot _ vars.Pa h = absurd (cc h)
second_slot vars.Op vars.Target h = absurd (cc h)
second_slot _ vars.Target h = absurd (cc h)
second_slot vars.Op vars.Outcome h = absurd (cc h)
second_slot _ vars.Outcome h = absurd (cc h)
second_slot v _ h = refl

between_one : (atom : Atom) → IsPlain atom → is_between atom ≡ true
between_one (atoms.Same v u) h = and_from _ _ (first_slot v u h) (second_slot v u h)
between_one (atoms.Differ v u) h = and_from _ _ (first_slot v u h) (second_slot v u h)
between_one _ h = refl

pub between : LeavesAreBetween
between [] h = refl
between (atom ∷ leaf) h = and_from _ _ (between_one atom h.0) (between leaf h.1)
