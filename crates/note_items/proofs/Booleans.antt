-- What tests on numbers say.
use Rattle.std.proofs.Common.{◌≡◌, ℕ, ◌<◌, ◌≤◌, ◌⊎◌, Bool, true, false, cond, ltb, leb, eqb, List, [], ◌∷◌, refl, arith, inl, inr}
use Rattle.std.specs.Prelude.{◌&&◌, ◌||◌}
use Rattle.std.specs.List.{list_any, list_all}
use Rattle.std.proofs.lemmas.Bool.Decides.{nat_tests}

pub equal : (a b : ℕ) → a ≡ b → eqb a b ≡ true
equal a b e = grind (arith, nat_tests)

pub apart : (a b : ℕ) → (a ≡ b → ⊥) → eqb a b ≡ false
apart a b ne = grind (arith, nat_tests)

pub at_most : (n m : ℕ) → leb n m ≡ true → n ≤ m
at_most n m h = grind (arith, nat_tests)

pub is_at_most : (n m : ℕ) → n ≤ m → leb n m ≡ true
is_at_most n m h = grind (arith, nat_tests)

-- a test before another one
pub and_true : (a b : Bool) → (a && b) ≡ true → (a ≡ true) × (b ≡ true)
and_true true b e = (refl, e)
and_true false b e = absurd cc

pub both_true : (a b : Bool) → a ≡ true → b ≡ true → (a && b) ≡ true
both_true true b e f = f
both_true false b e f = absurd cc

pub or_true : (a b : Bool) → (a || b) ≡ true → (a ≡ true) ⊎ (b ≡ true)
or_true true b e = inl refl
or_true false b e = inr e

-- a test that refuses, before another one
pub no_then : (b x : Bool) → cond b false x ≡ true → (b ≡ false) × (x ≡ true)
no_then true x e = absurd cc
no_then false x e = (refl, e)

-- a test that is asked for, before another one
pub yes_then : (b x : Bool) → cond b x false ≡ true → (b ≡ true) × (x ≡ true)
yes_then true x e = (refl, e)
yes_then false x e = absurd cc

-- what equals one of some small numbers is small
pub any_below : {A : Type 0} (f : A → ℕ) (m n : ℕ) (xs : List A) → list_all (λ x. ltb (f x) m) xs ≡ true → list_any (λ x. eqb n (f x)) xs ≡ true → n < m
any_below f m n [] all some = absurd cc
any_below f m n (x ∷ xs) all some =
    let first = and_true (ltb (f x) m) (list_all (λ y. ltb (f y) m) xs) all in
    elim (or_true (eqb n (f x)) (list_any (λ y. eqb n (f y)) xs) some) [
      | inl e ↦ below (f x) first.0 e
      | inr other ↦ any_below f m n xs first.1 other
    ]
  where
    below : (k : ℕ) → ltb k m ≡ true → eqb n k ≡ true → n < m
    below k lt e = grind (arith, nat_tests)

-- the same with the sides of the test exchanged
pub any_below_of : {A : Type 0} (f : A → ℕ) (m n : ℕ) (xs : List A) → list_all (λ x. ltb (f x) m) xs ≡ true → list_any (λ x. eqb (f x) n) xs ≡ true → n < m
any_below_of f m n [] all some = absurd cc
any_below_of f m n (x ∷ xs) all some =
    let first = and_true (ltb (f x) m) (list_all (λ y. ltb (f y) m) xs) all in
    elim (or_true (eqb (f x) n) (list_any (λ y. eqb (f y) n) xs) some) [
      | inl e ↦ below (f x) first.0 e
      | inr other ↦ any_below_of f m n xs first.1 other
    ]
  where
    below : (k : ℕ) → ltb k m ≡ true → eqb k n ≡ true → n < m
    below k lt e = grind (arith, nat_tests)
