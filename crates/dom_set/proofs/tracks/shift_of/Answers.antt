use Rattle.std.proofs.Common.{◌≡◌, ℕ, ◌%◌, ◌^◌, ◌<◌, ◌≤◌, true, arith}
use Rattle.std.proofs.lemmas.Bool.{eqb-true}
use Rattle.std.specs.Int.{w32, trailing_ones}
use Rattle.set_pieces.specs.declared.pattern.Pattern.{Pattern}
use Rattle.set_pieces.specs.Internal.Patterns.{matches}
use Rattle.set_pieces.proofs.Masks.{ones_low, same_low}
use Rattle.dom_set.proofs.tracks.shift_of.Goals as goal

same_remainder : (p : Pattern) (k x : ℕ) → p.mask < 2 ^ 32 → k ≤ trailing_ones w32 p.mask → k < 32 → matches p x ≡ true → x % 2 ^ k ≡ p.bits % 2 ^ k
unfolding matches
same_remainder p k x lt le small h = same_low x p.mask p.bits k (eqb-true _ _ h) (ones_low p.mask k lt le small)

pub returns-clause-same : goal.returns-clause-same
returns-clause-same c = λ x. same_remainder c.args.pattern c.min.result x (omega arith) (omega (arith, c.min.ensures, c.trailing_ones.ensures)) (omega (arith, c.min.ensures))
