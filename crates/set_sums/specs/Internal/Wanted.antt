-- What is looked for of two sets.
use Rattle.std.specs.Prelude.{◌≡◌, ℕ, ◌+◌, ◌%◌, ◌^◌, ◌<◌, List, IsTrue}
use Rattle.dom_set.specs.Elements.{is_in}
use Rattle.set_sums.specs.declared.sums.Wanted.{Wanted}
use Rattle.set_sums.specs.declared.sums.Wanted.TheVariants.{Sums, Differences}

-- a number is the sum of two others, or gives the first of these when the second is added, modulo 2 ^ 32
abbrev pub Leads : Wanted → ℕ → ℕ → ℕ → Type 0
Leads Sums v w n = n ≡ (v + w) % 2 ^ 32
Leads Differences v w n = v ≡ (n + w) % 2 ^ 32

-- the words that elements of two sets lead to
abbrev pub HoldsAny : Wanted → List ℕ → List ℕ → List ℕ → Type 0
HoldsAny wanted first second set = (v w n : ℕ) → n < 2 ^ 32 → IsTrue (is_in first v) → IsTrue (is_in second w) → Leads wanted v w n → IsTrue (is_in set n)

-- those that are in the domain
abbrev pub Holds : Wanted → List ℕ → List ℕ → List ℕ → List ℕ → Type 0
Holds wanted first second domain set = (v w n : ℕ) → n < 2 ^ 32 → IsTrue (is_in first v) → IsTrue (is_in second w) → Leads wanted v w n → IsTrue (is_in domain n) → IsTrue (is_in set n)
