use Rattle.std.proofs.lemmas.Nat.{and_shr}
use Rattle.std.proofs.Common.{sym, ap, ◌∙◌, ◌/◌, ℕ}
use Rattle.set_pieces.proofs.pattern.Pattern.half.Goals as goal

pub invariant_of-result : goal.invariant_of-result
invariant_of-result c = record { within = sym (and_shr c.args.self.bits c.args.self.mask 1) ∙ ap (λ (n : ℕ). n / 2) c.args.self.within }
