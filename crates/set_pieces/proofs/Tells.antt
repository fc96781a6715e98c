-- Bits that all numbers of a run have.
use Rattle.std.proofs.Common.{◌≡◌, ℕ, true, bit_and, sym, ap, ◌∙◌}
use Rattle.std.proofs.lemmas.Bool.{eqb-true}
use Rattle.std.proofs.lemmas.Nat.{and_assoc}
use Rattle.set_pieces.specs.declared.run.Run.{Run}
use Rattle.set_pieces.specs.Internal.Patterns.{matches}
use Rattle.set_pieces.specs.Internal.Runs.{in_run}
use Rattle.set_pieces.proofs.Pieces.{passes}

matched_bits : (p : Run) (x : ℕ) → in_run p x ≡ true → bit_and x p.pattern.mask ≡ p.pattern.bits
unfolding in_run matches
matched_bits p x h = eqb-true _ _ (passes (matches p.pattern) p.low p.high x h).matched

pub told_bits : (p : Run) (mask x : ℕ) → bit_and p.pattern.mask mask ≡ mask → in_run p x ≡ true → bit_and x mask ≡ bit_and p.pattern.bits mask
told_bits p mask x within held =
    ap (bit_and x) (sym within) ∙ sym (and_assoc mask x p.pattern.mask) ∙ ap (λ (y : ℕ). bit_and y mask) (matched_bits p x held)
