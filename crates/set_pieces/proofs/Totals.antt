-- Sums over the numbers below one.
use Rattle.std.proofs.Common.{◌≡◌, ℕ, zero, suc, ◌+◌, ◌<◌, ◌≤◌, inl, inr, refl, arith}
use Rattle.std.proofs.lemmas.Bool.{cases_lt, cases_eq}
use Rattle.set_pieces.specs.Counting.{total}

pub total_none : (f : ℕ → ℕ) → total f 0 ≡ 0
unfolding total
total_none f = refl

pub total_next : (f : ℕ → ℕ) (n : ℕ) → total f (n + 1) ≡ total f n + f n
unfolding total
total_next f n = let e : n + 1 ≡ suc n = omega arith in rw e refl

pub total_same : (f g : ℕ → ℕ) (n : ℕ) → ((x : ℕ) → x < n → f x ≡ g x) → total f n ≡ total g n
unfolding total
total_same f g zero h = refl
total_same f g (suc n) h = (λ i. total_same f g n (λ x lt. h x (omega arith)) i + h n (omega arith) i)

pub total_add : (f g : ℕ → ℕ) (n : ℕ) → total (λ x. f x + g x) n ≡ total f n + total g n
unfolding total
total_add f g zero = refl
total_add f g (suc n) = omega (arith, total_add f g n)

pub total_le : (f g : ℕ → ℕ) (n : ℕ) → ((x : ℕ) → f x ≤ g x) → total f n ≤ total g n
unfolding total
total_le f g zero h = omega arith
total_le f g (suc n) h = omega (arith, total_le f g n h, h n)

pub total_most : (f : ℕ → ℕ) (n : ℕ) → ((x : ℕ) → f x ≤ 1) → total f n ≤ n
unfolding total
total_most f zero h = omega arith
total_most f (suc n) h = omega (arith, total_most f n h, h n)

pub total_zero : (f : ℕ → ℕ) (n : ℕ) → ((x : ℕ) → x < n → f x ≡ 0) → total f n ≡ 0
unfolding total
total_zero f zero h = refl
total_zero f (suc n) h = omega (arith, total_zero f n (λ x lt. h x (omega arith)), h n (omega arith))

-- nothing is added from one number up to another
pub total_stays : (f : ℕ → ℕ) (m n : ℕ) → m ≤ n → ((x : ℕ) → m ≤ x → x < n → f x ≡ 0) → total f n ≡ total f m
unfolding total
total_stays f m zero le h = let e : m ≡ 0 = omega arith in rw e refl
total_stays f m (suc n) le h = elim (cases_lt n m) [
  | inl above ↦ (let e : m ≡ suc n = omega arith in rw e refl)
  | inr within ↦ omega (arith, total_stays f m n within (λ x from lt. h x from (omega arith)), h n within (omega arith))
]

-- what is no more anywhere and the same in all is the same everywhere
pub total_equal : (f g : ℕ → ℕ) (n : ℕ) → ((x : ℕ) → f x ≤ g x) → total f n ≡ total g n → (x : ℕ) → x < n → f x ≡ g x
unfolding total
total_equal f g zero h e x lt = absurd (omega arith)
total_equal f g (suc n) h e x lt =
    let less = total_le f g n h in
    elim (cases_eq x n) [
      | inl here ↦ rw here (omega (arith, h n))
      | inr other ↦ (let below : x < n = omega arith in total_equal f g n h (omega (arith, h n)) x below)
    ]
