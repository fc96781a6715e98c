-- Numbers that stand close together, by how far they are from a lowest one.
use Rattle.std.specs.Prelude.{◌≡◌, ℕ, Bool, true, ◌+◌, ◌-◌, ◌<◌, ◌≤◌, List, IsTrue}
use Rattle.lane_bits.specs.Pages.{has}
use Rattle.near_marks.specs.declared.close.Distances.{Distances}
use Rattle.near_marks.specs.declared.steps.Steps.{Steps}
use Rattle.near_marks.specs.Internal.Near.{is_at, is_at_one, is_marked}

-- all numbers of the steps are less than 4,096 above the lowest
abbrev pub AreClose : List Steps → ℕ → Type 0
AreClose all low = (n : ℕ) → IsTrue (is_at_one all n) → (low ≤ n) × (n < low + 4096)

-- those of the steps that are less than 4,096 above the lowest stand on the page, by how far they are above it
abbrev pub ArePlacedOf : List ℕ → Steps → ℕ → Type 0
ArePlacedOf page steps low = (n : ℕ) → IsTrue (is_at steps n) → low ≤ n → n < low + 4096 → IsTrue (has page (n - low))

-- the same of all steps
abbrev pub ArePlaced : List ℕ → List Steps → ℕ → Type 0
ArePlaced page all low = (n : ℕ) → IsTrue (is_at_one all n) → low ≤ n → n < low + 4096 → IsTrue (has page (n - low))

-- they stand there by how far they are below the last of these 4,096
abbrev pub AreTurnedOf : List ℕ → Steps → ℕ → Type 0
AreTurnedOf page steps low = (n : ℕ) → IsTrue (is_at steps n) → low ≤ n → n < low + 4096 → IsTrue (has page (low + 4095 - n))

-- the same of all steps
abbrev pub AreTurnedOfAll : List ℕ → List Steps → ℕ → Type 0
AreTurnedOfAll page all low = (n : ℕ) → IsTrue (is_at_one all n) → low ≤ n → n < low + 4096 → IsTrue (has page (low + 4095 - n))

-- the numbers of a page stand in another by how far they are below its last one
abbrev pub AreTurnedIn : List ℕ → List ℕ → Type 0
AreTurnedIn page turned = (i : ℕ) → IsTrue (has page i) → i < 4096 → IsTrue (has turned (4095 - i))

-- how far numbers of the first page are above those of the other is in the third
abbrev pub AreAbove : List ℕ → List ℕ → List ℕ → Type 0
AreAbove firsts others above = (i j : ℕ) → IsTrue (has firsts i) → IsTrue (has others j) → i < 4096 → j < 4096 → j ≤ i → IsTrue (has above (i - j))

-- how far they are below those is in the third
abbrev pub AreBelow : List ℕ → List ℕ → List ℕ → Type 0
AreBelow firsts others below = (i j : ℕ) → IsTrue (has firsts i) → IsTrue (has others j) → i < 4096 → j < 4096 → i ≤ j → IsTrue (has below (j - i))

-- how far the numbers of two pages are from each other
pub record AreDistances (firsts others : List ℕ) (d : Distances) : Type 0 where
  pub above : AreAbove firsts others d.above
  pub below : AreBelow firsts others d.below

-- where a sum is as far from the ends as numbers are from each other, the answer says so
pub record IsDistance (d : Distances) (ends sum : ℕ) (answer : Bool) : Type 0 where
  pub above : ends ≤ sum → IsTrue (has d.above (sum - ends)) → answer ≡ true
  pub below : sum < ends → IsTrue (has d.below (ends - sum)) → answer ≡ true

-- where a number of the first page is one of the other page and as far above it as the sum is above the ends, the answer says so
abbrev pub MayMeet : List ℕ → List ℕ → ℕ → ℕ → Bool → Type 0
MayMeet firsts others ends sum answer = (i j : ℕ) → IsTrue (has firsts i) → IsTrue (has others j) → i < 4096 → j < 4096 → i + ends ≡ j + sum → answer ≡ true

-- the sums at which numbers of both pages meet so are marked, from the base on
abbrev pub AreMet : List ℕ → List ℕ → List ℕ → ℕ → ℕ → Type 0
AreMet marks firsts others ends base = (i j x : ℕ) → IsTrue (has firsts i) → IsTrue (has others j) → i < 4096 → j < 4096 → i + ends ≡ j + (base + x) → x < 4096 → IsTrue (is_marked marks x)
