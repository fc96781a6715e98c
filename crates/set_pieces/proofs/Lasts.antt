-- The last number that passes a test.
use Rattle.std.proofs.Common.{◌≡◌, ℕ, ◌+◌, ◌-◌, ◌^◌, ◌<◌, ◌≤◌, Bool, true, false, Option, Some, None, bit_and, sym, ap, ◌∙◌, arith}
use Rattle.std.proofs.lemmas.Bool.{eqb-true, eq-eqb, false≢true, false_from_ne_true}
use Rattle.std.proofs.lemmas.Nat.{and-not, and_assoc, and_comm}
use Rattle.std.specs.Int.Bits.{and_self}
use Rattle.set_pieces.specs.declared.run.Run.{Run}
use Rattle.set_pieces.specs.declared.pattern.Pattern.{Pattern}
use Rattle.set_pieces.specs.Internal.Patterns.{matches}
use Rattle.set_pieces.specs.Internal.Runs.{in_run}
use Rattle.set_pieces.specs.Ends.{IsLast}
use Rattle.set_pieces.proofs.Low.{same_tests}
use Rattle.set_pieces.proofs.Pieces.{test_from, passes}

-- ---- patterns

mirrored_bits : (m b : ℕ) → m < 2 ^ 32 → b < 2 ^ 32 → bit_and b m ≡ b → bit_and m (2 ^ 32 - 1 - b) + b ≡ m
mirrored_bits m b lm lb within = omega (arith, and-not 32 b m lb lm, and_comm (2 ^ 32 - 1 - b) m, within)

pub mirrored_within : (m b : ℕ) → bit_and (bit_and m (2 ^ 32 - 1 - b)) m ≡ bit_and m (2 ^ 32 - 1 - b)
mirrored_within m b = ap (λ (n : ℕ). bit_and n m) (and_comm m (2 ^ 32 - 1 - b)) ∙ and_assoc m (2 ^ 32 - 1 - b) m ∙ ap (bit_and (2 ^ 32 - 1 - b)) (and_self m) ∙ and_comm (2 ^ 32 - 1 - b) m

pub mirror_matches : (p q : Pattern) (x : ℕ) → p.mask < 2 ^ 32 → p.bits < 2 ^ 32 → q.mask ≡ p.mask → q.bits ≡ bit_and p.mask (2 ^ 32 - 1 - p.bits) → x < 2 ^ 32 → matches q (2 ^ 32 - 1 - x) ≡ matches p x
unfolding matches
mirror_matches p q x lm lb mask bits lx =
    let own : bit_and (2 ^ 32 - 1 - x) p.mask + bit_and x p.mask ≡ p.mask = and-not 32 x p.mask lx lm in
    let other : q.bits + p.bits ≡ p.mask = omega (arith, bits, mirrored_bits p.mask p.bits lm lb p.within) in
    let masked : bit_and (2 ^ 32 - 1 - x) q.mask ≡ bit_and (2 ^ 32 - 1 - x) p.mask = ap (bit_and (2 ^ 32 - 1 - x)) mask in
    same_tests _ _
    (λ h. let is = eqb-true _ _ h in eq-eqb _ _ (omega (arith, own, other, masked, is)))
    (λ h. let is = eqb-true _ _ h in eq-eqb _ _ (omega (arith, own, other, masked, is)))

-- ---- runs

pub last_held : (p : Run) (v : ℕ) → p.low ≤ v → (matches p.pattern v ≡ true) × (v ≤ p.high) × ((x : ℕ) → v < x → x ≤ p.high → matches p.pattern x ≡ false) → (in_run p v ≡ true) × ((x : ℕ) → v < x → in_run p x ≡ false)
unfolding in_run
last_held p v from is = (
  test_from (matches p.pattern) p.low p.high v (record { above = from; below = is.1; matched = is.0 }),
  λ x past. false_from_ne_true _ (λ h.
      let t = passes (matches p.pattern) p.low p.high x h in
      false≢true (sym (is.2 x past t.below) ∙ t.matched)),
)

pub none_held : (p : Run) → ((x : ℕ) → p.low ≤ x → x ≤ p.high → matches p.pattern x ≡ false) → (x : ℕ) → in_run p x ≡ false
unfolding in_run
none_held p none x = false_from_ne_true _ (λ h.
    let t = passes (matches p.pattern) p.low p.high x h in
    false≢true (sym (none x t.above t.below) ∙ t.matched))

-- ---- tests

pub last_same : (t u : ℕ → Bool) (o : Option ℕ) → ((x : ℕ) → t x ≡ u x) → IsLast t o → IsLast u o
last_same t u None same none = λ x. sym (same x) ∙ none x
last_same t u (Some v) same is = (sym (same v) ∙ is.0, λ x past. sym (same x) ∙ is.1 x past)
