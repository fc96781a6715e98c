use Rattle.std.proofs.Common.{◌≡◌, ℕ, true, bit_and, sym, ap, ◌∙◌}
use Rattle.std.proofs.lemmas.Bool.{eqb-true, eq-eqb}
use Rattle.std.proofs.lemmas.Nat.{and_assoc}
use Rattle.set_pieces.specs.declared.pattern.Pattern.{Pattern}
use Rattle.set_pieces.specs.Internal.Patterns.{matches}
use Rattle.set_pieces.proofs.pattern.Pattern.is_within.Goals as goal

-- where a pattern has all bits of another, what matches it matches the other
has_bits : (p q : Pattern) (x : ℕ) → bit_and p.mask q.mask ≡ q.mask → bit_and p.bits q.mask ≡ q.bits → matches p x ≡ true → matches q x ≡ true
unfolding matches
has_bits p q x mask bits h = eq-eqb _ _
    (ap (bit_and x) (sym mask) ∙ sym (and_assoc q.mask x p.mask) ∙ ap (λ (y : ℕ). bit_and y q.mask) (eqb-true _ _ h) ∙ bits)

pub returns-then-self-other : goal.returns-then-self-other
returns-then-self-other c = λ h x. has_bits c.args.self c.args.other x c.if-self-other.true (eqb-true _ _ h)
