-- Which numbers pass a test: the first and the last of them, and their pages.
use Rattle.std.specs.Prelude.{◌≡◌, ℕ, ◌/◌, ◌<◌, ◌≤◌, Bool, true, false, min, max, Option, Some, None, MatchOption}

-- a number of the page of 4,096 with this number passes the test
abbrev pub HasPage : (ℕ → Bool) → ℕ → Type 0
HasPage test q = (y : ℕ) × (test y ≡ true) × (y / 4096 ≡ q)

-- the first number from the given one up that passes the test, if any does
abbrev pub IsFirstFrom : (ℕ → Bool) → ℕ → Option ℕ → Type 0
IsFirstFrom test from o =
    MatchOption o ((x : ℕ) → from ≤ x → test x ≡ false)
    (λ v. (test v ≡ true) × (from ≤ v) × ((x : ℕ) → from ≤ x → x < v → test x ≡ false))

-- the last number up to the given one that passes the test, if any does
abbrev pub IsLastTo : (ℕ → Bool) → ℕ → Option ℕ → Type 0
IsLastTo test to o =
    MatchOption o ((x : ℕ) → x ≤ to → test x ≡ false)
    (λ v. (test v ≡ true) × (v ≤ to) × ((x : ℕ) → v < x → x ≤ to → test x ≡ false))

-- the last number of all that passes the test, if any does
abbrev pub IsLast : (ℕ → Bool) → Option ℕ → Type 0
IsLast test o = MatchOption o ((x : ℕ) → test x ≡ false) (λ v. (test v ≡ true) × ((x : ℕ) → v < x → test x ≡ false))

-- from one number that passes the test up to another
pub record AreEnds (test : ℕ → Bool) (span : ℕ × ℕ) : Type 0 where
  pub ordered : span.0 ≤ span.1
  pub low : test span.0 ≡ true
  pub high : test span.1 ≡ true

-- the greater of two numbers that may be missing
abbrev pub greater : Option ℕ → Option ℕ → Option ℕ
greater None b = b
greater (Some x) None = Some x
greater (Some x) (Some y) = Some (max x y)

-- the lesser of two numbers that may be missing
abbrev pub lesser : Option ℕ → Option ℕ → Option ℕ
lesser None b = b
lesser (Some x) None = Some x
lesser (Some x) (Some y) = Some (min x y)
