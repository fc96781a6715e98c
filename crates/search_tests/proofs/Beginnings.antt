-- The beginnings of a list.
use Rattle.std.proofs.Common.{◌≡◌, ℕ, zero, suc, ◌+◌, ◌≤◌, List, [], ◌∷◌, ◌++◌, length, map, take, refl, sym, ap, ◌∙◌, arith}
use Rattle.std.proofs.lemmas.List.{map-append}
use Rattle.search_tests.specs.Listed.{beginnings}

map_take : {A B : Type 0} (f : A → B) (n : ℕ) (xs : List A) → map f (take n xs) ≡ take n (map f xs)
map_take f zero xs = refl
map_take f (suc n) [] = refl
map_take {B = B} f (suc n) (x ∷ xs) = ap (λ (ys : List B). f x ∷ ys) (map_take f n xs)

length_map : {A B : Type 0} (f : A → B) (xs : List A) → length (map f xs) ≡ length xs
length_map f [] = refl
length_map f (x ∷ xs) = ap suc (length_map f xs)

pub beginnings_length : {A : Type 0} (xs : List A) → length (beginnings xs) ≡ length xs
beginnings_length [] = refl
beginnings_length {A = A} (x ∷ xs) = ap suc (length_map (λ (ys : List A). x ∷ ys) (beginnings xs) ∙ beginnings_length xs)

-- with the list itself
all_beginnings : {A : Type 0} (xs : List A) (x : A) → beginnings (x ∷ xs) ++ ((x ∷ xs) ∷ []) ≡ [] ∷ map (λ (ys : List A). x ∷ ys) (beginnings xs ++ (xs ∷ []))
all_beginnings {A = A} xs x = ap (λ (zs : List (List A)). [] ∷ zs) (sym (map-append (λ (ys : List A). x ∷ ys) (beginnings xs) (xs ∷ [])))

one_taken : {A : Type 0} (xs : List A) → [] ∷ [] ≡ take 1 (beginnings xs ++ (xs ∷ []))
one_taken [] = refl
one_taken (x ∷ xs) = refl

taken : {A : Type 0} (xs : List A) (m : ℕ) → m ≤ length xs → beginnings (take m xs) ++ (take m xs ∷ []) ≡ take (suc m) (beginnings xs ++ (xs ∷ []))
taken xs zero le = one_taken xs
taken [] (suc m) le = absurd (omega (arith, le))
taken {A = A} (x ∷ xs) (suc m) le =
    all_beginnings (take m xs) x
    ∙ ap (λ (zs : List (List A)). [] ∷ map (λ (ys : List A). x ∷ ys) zs) (taken xs m (omega (arith, le)))
    ∙ ap (λ (zs : List (List A)). [] ∷ zs) (map_take (λ (ys : List A). x ∷ ys) (suc m) (beginnings xs ++ (xs ∷ [])))
    ∙ ap (take (suc (suc m))) (sym (all_beginnings xs x))

longer : {A : Type 0} (xs : List A) (e : A) → beginnings (xs ++ (e ∷ [])) ≡ beginnings xs ++ (xs ∷ [])
longer [] e = refl
longer {A = A} (x ∷ xs) e = ap (λ (zs : List (List A)). [] ∷ map (λ (ys : List A). x ∷ ys) zs) (longer xs e) ∙ ap (λ (zs : List (List A)). [] ∷ zs) (map-append (λ (ys : List A). x ∷ ys) (beginnings xs) (xs ∷ []))

take_first : {A : Type 0} (xs ys : List A) → take (length xs) (xs ++ ys) ≡ xs
take_first [] ys = refl
take_first {A = A} (x ∷ xs) ys = ap (λ (zs : List A). x ∷ zs) (take_first xs ys)

take_whole : {A : Type 0} (xs : List A) → take (length xs) xs ≡ xs
take_whole [] = refl
take_whole {A = A} (x ∷ xs) = ap (λ (zs : List A). x ∷ zs) (take_whole xs)

module _ {A B : Type 0} (f : List A → B) where
  pub rolled_back : (xs ys : List A) (m : ℕ) → ys ≡ take m xs → m ≤ length (map f (beginnings xs)) → map f (beginnings ys) ++ (f ys ∷ []) ≡ take (m + 1) (map f (beginnings xs) ++ (f xs ∷ []))
  rolled_back xs ys m is le =
      let within : m ≤ length xs = omega (arith, le, length_map f (beginnings xs), beginnings_length xs) in
      let e : suc m ≡ m + 1 = omega arith in
      ap (λ (zs : List A). map f (beginnings zs) ++ (f zs ∷ [])) is
      ∙ sym (map-append f (beginnings (take m xs)) (take m xs ∷ []))
      ∙ ap (map f) (taken xs m within)
      ∙ map_take f (suc m) (beginnings xs ++ (xs ∷ []))
      ∙ ap (take (suc m)) (map-append f (beginnings xs) (xs ∷ []))
      ∙ ap (λ (n : ℕ). take n (map f (beginnings xs) ++ (f xs ∷ []))) e

  pub kept_on : (xs ys : List A) (e : A) → ys ≡ xs ++ (e ∷ []) → take (length (map f (beginnings xs) ++ (f xs ∷ []))) (map f (beginnings ys) ++ (f ys ∷ [])) ≡ map f (beginnings xs) ++ (f xs ∷ [])
  kept_on xs ys e is =
      let old : List B = map f (beginnings xs) ++ (f xs ∷ []) in
      let grown : map f (beginnings ys) ≡ old = ap (λ (zs : List A). map f (beginnings zs)) is ∙ ap (map f) (longer xs e) ∙ map-append f (beginnings xs) (xs ∷ []) in
      ap (λ (zs : List B). take (length old) (zs ++ (f ys ∷ []))) grown ∙ take_first old (f ys ∷ [])

  pub kept_still : (xs : List A) → take (length (map f (beginnings xs) ++ (f xs ∷ []))) (map f (beginnings xs) ++ (f xs ∷ [])) ≡ map f (beginnings xs) ++ (f xs ∷ [])
  kept_still xs = take_whole (map f (beginnings xs) ++ (f xs ∷ []))

  pub mark_is : (xs : List A) → length (map f (beginnings xs)) ≡ length xs
  mark_is xs = length_map f (beginnings xs) ∙ beginnings_length xs
