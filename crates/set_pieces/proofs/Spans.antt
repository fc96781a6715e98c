-- The ends of the numbers that pass a test.
use Rattle.std.proofs.Common.{◌≡◌, ℕ, ◌<◌, ◌≤◌, Bool, true, ◌&&◌, leb, Some, ◌⊎◌, inl, inr, sym, ◌∙◌, arith}
use Rattle.std.proofs.lemmas.Bool.{cases_lt, false≢true}
use Rattle.set_pieces.specs.declared.pattern.Pattern.{Pattern}
use Rattle.set_pieces.specs.declared.run.Run.{Run}
use Rattle.set_pieces.specs.Internal.Patterns.{matches}
use Rattle.set_pieces.specs.Internal.Runs.{in_run}
use Rattle.set_pieces.specs.Ends.{IsFirstFrom, IsLast, AreEnds}
use Rattle.set_pieces.proofs.Low.{same_tests}
use Rattle.set_pieces.proofs.Pieces.{passes, test_from}

-- all that pass are between the first and the last
pub between : (t : ℕ → Bool) (low high x : ℕ) → IsFirstFrom t 0 (Some low) → IsLast t (Some high) → t x ≡ true → (low ≤ x) × (x ≤ high)
between t low high x first last h = (from (cases_lt x low), to (cases_lt high x)) where
  from : (x < low) ⊎ (low ≤ x) → low ≤ x
  from (inl under) = absurd (false≢true (sym (first.2 x (omega arith) under) ∙ h))
  from (inr le) = le

  to : (high < x) ⊎ (x ≤ high) → x ≤ high
  to (inl past) = absurd (false≢true (sym (last.1 x past) ∙ h))
  to (inr le) = le

-- the first and the last that passes
pub from_ends : (t : ℕ → Bool) (low high : ℕ) → IsFirstFrom t 0 (Some low) → IsLast t (Some high) → AreEnds t (low, high)
from_ends t low high first last = record { ordered = (between t low high high first last last.0).0; low = first.0; high = last.0 }

-- a run from its first number to its last one, by a pattern that says the same between these
pub tightened : (p : Run) (q : Pattern) (low high : ℕ) → IsFirstFrom (in_run p) 0 (Some low) → IsLast (in_run p) (Some high) → ((x : ℕ) → low ≤ x → x ≤ high → matches q x ≡ matches p.pattern x) → (x : ℕ) → ((leb low x && leb x high) && matches q x) ≡ in_run p x
unfolding in_run
tightened p q low high first last same x = same_tests _ _
    (λ h.
    let here = passes (matches q) low high x h in
    let a = passes (matches p.pattern) p.low p.high low first.0 in
    let b = passes (matches p.pattern) p.low p.high high last.0 in
    test_from (matches p.pattern) p.low p.high x (record { above = omega (arith, a.above, here.above); below = omega (arith, b.below, here.below); matched = sym (same x here.above here.below) ∙ here.matched }))
    (λ h.
    let ends = between (in_run p) low high x first last h in
    let here = passes (matches p.pattern) p.low p.high x h in
    test_from (matches q) low high x (record { above = ends.0; below = ends.1; matched = same x ends.0 ends.1 ∙ here.matched }))
