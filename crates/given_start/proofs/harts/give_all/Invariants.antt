use Rattle.std.proofs.Common.{List, ◌≡◌, ℕ, drop}
use Rattle.tpl_ast.specs.declared.template.Region.{Region}
use Rattle.tpl_admit.specs.Starts.{lookup}
use Rattle.given_start.specs.Knowledge.{known_of, fixed_now}
use Rattle.given_start.proofs.Given.{or_else, AreLeft}
use Rattle.given_start.proofs.harts.give_all.Given as goal

abbrev pub invariant-loop-place : goal.invariant-loop-place
invariant-loop-place l = record {
  fixed : (ram : List Region) → fixed_now ram l.hart ≡ fixed_now ram l.fn.hart;
  left : AreLeft (known_of l.hart) (drop l.place-index l.places);
  known : (key : ℕ) → or_else (lookup (drop l.place-index l.places) key) (known_of l.hart key) ≡ lookup l.places key;
}
