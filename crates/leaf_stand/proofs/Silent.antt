-- Atoms that say nothing of a variable.
use Rattle.std.proofs.Common.{◌≡◌, ℕ, Bool, true, false, ◌||◌, List, [], ◌∷◌, Some, refl, ap}
use Rattle.std.specs.Prelude.{not, if◌then◌else◌}
use Rattle.std.proofs.lemmas.Bool.{and_from}
use Rattle.tpl_ast.specs.declared.template.Atom.{Atom}
use Rattle.tpl_ast.specs.declared.template.Atom.TheVariants as atoms
use Rattle.tpl_ast.specs.declared.template.Var.{Var}
use Rattle.tpl_admit.specs.Truth.{is_shared}
use Rattle.leaf_link.specs.Turns.{Turn}
use Rattle.leaf_link.specs.Cases.{all_tests, is_value_named, tests}
use Rattle.dom_set.specs.Elements.{is_in}
use Rattle.leaf_stand.specs.Relations.{speak_of, speaks_of}

silent_atom : (t : Turn) (atom : Atom) (u : Var) (v : ℕ) → speaks_of atom u ≡ false → tests t atom u v ≡ true
silent_atom t (atoms.In w set) u v h = ap (λ (b : Bool). if b then is_in set v else true) h
silent_atom t (atoms.NotIn w set) u v h = ap (λ (b : Bool). if b then not (is_in set v) else true) h
silent_atom t (atoms.Is w name) u v h = ap (λ (b : Bool). if b then is_value_named (t.names name) (t.sets name) v else true) h
silent_atom t (atoms.Same w y) u v h = refl
silent_atom t (atoms.Differ w y) u v h = refl
silent_atom t atoms.Taken u v h = refl
silent_atom t atoms.NotTaken u v h = refl
silent_atom t atoms.Shared u v h = ap (λ (b : Bool). if b then is_shared t.others (Some v) else true) h

pub neither : (a b : Bool) → (a || b) ≡ false → (a ≡ false) × (b ≡ false)
neither true b h = absurd (cc h)
neither false b h = (refl, h)

-- atoms that are not about a variable let through all its values
pub silent : (t : Turn) (leaf : List Atom) (u : Var) (v : ℕ) → speak_of leaf u ≡ false → all_tests t leaf u v ≡ true
silent t [] u v h = refl
silent t (atom ∷ leaf) u v h = let b = neither (speaks_of atom u) (speak_of leaf u) h in and_from _ _ (silent_atom t atom u v b.0) (silent t leaf u v b.1)
