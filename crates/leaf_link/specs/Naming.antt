-- The names of a whole leaf.
use Rattle.std.specs.Prelude.{◌≡◌, ℕ, true, nat_eq, if◌then◌else◌, List, [], ◌∷◌, Option}
use Rattle.rv_script.specs.Folds.{Known}
use Rattle.rv_script.specs.Lists.{HasItem}
use Rattle.tpl_ast.specs.Leaves.{NamedOnce}
use Rattle.tpl_ast.specs.declared.template.Atom.{Atom}
use Rattle.tpl_ast.specs.declared.template.Atom.TheVariants as atoms
use Rattle.tpl_admit.specs.Variables.{Moment, value_of}
use Rattle.tpl_admit.specs.Truth.{holds}
use Rattle.rv_script.specs.Logs.{or_else}
use Rattle.leaf_link.specs.Turns.{Turn}
use Rattle.leaf_link.specs.Candidates.{IsCandidate, moment_of}
use Rattle.leaf_link.specs.Admitted.{renamed}

-- names that keep their values, and those of the leaf that were not bound are bound to the values of their variables
abbrev pub bound_by : (ℕ → Option ℕ) → Moment → List Atom → ℕ → Option ℕ
bound_by names m [] name = names name
bound_by names m (atoms.Is v other ∷ leaf) name = if nat_eq other name then or_else (names other) (value_of v m) else bound_by names m leaf name
bound_by names m (atom ∷ leaf) name = bound_by names m leaf name

-- with the leaf's names bound so, every atom of a candidate is true of its record, as admission judges it
abbrev pub LeavesAreTrue : Type 0
LeavesAreTrue =
    (t : Turn) (leaf : List Atom) (new : Known) → NamedOnce leaf → (w : IsCandidate t leaf new) → (atom : Atom) → HasItem leaf atom
    → holds atom (renamed (moment_of t w.log w.change) (bound_by t.names (moment_of t w.log w.change) leaf)) ≡ true
