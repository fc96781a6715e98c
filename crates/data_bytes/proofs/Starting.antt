-- The addresses from which on a byte is in a set.
use Rattle.std.proofs.Common.{◌≡◌, ℕ, ◌+◌, ◌-◌, ◌%◌, ◌<◌, ◌≤◌, ◌^◌, inl, inr, Bool, true, false, ◌&&◌, ◌||◌, not, nat_eq, List, [], ◌∷◌, refl, sym, ap, ◌∙◌, arith}
use Rattle.std.specs.List.{filter}
use Rattle.std.specs.Int.{IsPowerOfTwo}
use Rattle.std.specs.Bool.{◌==◌}
use Rattle.std.proofs.lemmas.Bool.Decides.{nat_tests}
use Rattle.std.proofs.lemmas.Bool.{eqb-true}
use Rattle.dom_set.specs.Elements.{elements_of, is_in, is_within}
use Rattle.data_bytes.specs.Sets.{IsSetOf}
use Rattle.rv_script.specs.Bytes.{any_byte}
use Rattle.data_bytes.specs.Starts.{IsSize, is_open}
use Rattle.data_bytes.proofs.Sets.{elements_are, filter_leaves, moved}

pub size_power : (size : ℕ) → IsSize size → IsPowerOfTwo size
size_power size (inl h) = (0, h)
size_power size (inr (inl h)) = (1, h)
size_power size (inr (inr h)) = (2, h)

pub all_within : (b : Bool) (v : ℕ) → v < 2 ^ 32 → (b && is_within ((0, 4294967295) ∷ []) v) ≡ b
all_within true v small = grind (arith, nat_tests)
all_within false v small = refl

or_none : (a : Bool) → a ≡ (a || false)
or_none true = refl
or_none false = refl

pub single : (xs set : List ℕ) (v : ℕ) → set ≡ xs → is_in set v ≡ any_byte 1 v (is_in xs)
single xs set v e = ap (λ (s : List ℕ). is_in s v) e ∙ or_none (is_in xs v)

either_of : (xs ys set : List ℕ) → set ≡ elements_of (λ x. is_in xs x || is_in ys x) → (v : ℕ) → v < 2 ^ 32 → is_in set v ≡ (is_in xs v || is_in ys v)
either_of xs ys set e v small = elements_are (λ x. is_in xs x || is_in ys x) set e v small

-- either of two bytes
pub pair : (xs ys set : List ℕ) → ys ≡ elements_of (λ y. is_in xs ((y + (2 ^ 32 - 4294967295)) % 2 ^ 32)) → set ≡ elements_of (λ x. is_in xs x || is_in ys x)
    → (v : ℕ) → v + 2 ≤ 2 ^ 32 → is_in set v ≡ any_byte 2 v (is_in xs)
pair xs ys set e k v within =
    either_of xs ys set k v (omega arith)
    ∙ ap (λ (b : Bool). is_in xs v || b) (moved xs ys 1 v e (omega arith) ∙ or_none (is_in xs (v + 1)))

regrouped : (a b c d : Bool) → ((a || (b || false)) || (c || (d || false))) ≡ (a || (b || (c || (d || false))))
regrouped true b c d = refl
regrouped false true c d = refl
regrouped false false c d = refl

-- one of four bytes
pub four : (xs pairs ys set : List ℕ) → ((v : ℕ) → v + 2 ≤ 2 ^ 32 → is_in pairs v ≡ any_byte 2 v (is_in xs))
    → ys ≡ elements_of (λ y. is_in pairs ((y + (2 ^ 32 - 4294967294)) % 2 ^ 32)) → set ≡ elements_of (λ x. is_in pairs x || is_in ys x)
    → (v : ℕ) → v + 4 ≤ 2 ^ 32 → is_in set v ≡ any_byte 4 v (is_in xs)
four xs pairs ys set two e k v within =
    let third : v + 2 ≡ v + 1 + 1 = omega arith in
    let later : is_in ys v ≡ any_byte 2 (v + 2) (is_in xs) = moved pairs ys 2 v e (omega arith) ∙ two (v + 2) (omega arith) in
    either_of pairs ys set k v (omega arith)
    ∙ ap (λ (b : Bool). b || is_in ys v) (two v (omega arith))
    ∙ ap (λ (b : Bool). any_byte 2 v (is_in xs) || b) later
    ∙ regrouped (is_in xs v) (is_in xs (v + 1)) (is_in xs (v + 2)) (is_in xs (v + 2 + 1))
    ∙ (λ i. is_in xs v || (is_in xs (v + 1) || (is_in xs (third i) || (is_in xs (third i + 1) || false))))

room : (size v : ℕ) → IsSize size → v < 2 ^ 32 → v % size ≡ 0 → v + size ≤ 2 ^ 32
room size v (inl h) small m = omega arith
room size v (inr (inl h)) small m = (let even : v % 2 ≡ 0 = sym (ap (λ (s : ℕ). v % s) h) ∙ m in omega arith)
room size v (inr (inr h)) small m = (let even : v % 4 ≡ 0 = sym (ap (λ (s : ℕ). v % s) h) ∙ m in omega arith)

-- the multiples of a size in a set from which on no byte is barred
pub open_are : (words multiples starts barred taken set : List ℕ) (size : ℕ) → IsSize size
    → IsSetOf (λ v. nat_eq (v % size) 0) multiples
    → starts ≡ filter (is_in multiples) words
    → ((v : ℕ) → v + size ≤ 2 ^ 32 → is_in taken v ≡ any_byte size v (is_in barred))
    → set ≡ filter (λ x. not (is_in taken x)) starts
    → IsSetOf (λ v. is_in words v && is_open barred size v) set
open_are words multiples starts barred taken set size is m e t k v small =
    filter_leaves (λ x. not (is_in taken x)) starts set k v
    ∙ ap (λ (b : Bool). b && not (is_in taken v)) (filter_leaves (is_in multiples) words starts e v ∙ ap (λ (b : Bool). is_in words v && b) (m v small))
    ∙ step (nat_eq (v % size) 0) refl (is_in words v) where
      step : (b : Bool) → nat_eq (v % size) 0 ≡ b → (a : Bool) → ((a && b) && not (is_in taken v)) ≡ (a && (b && not (any_byte size v (is_in barred))))
      step true h true = ap not (t v (room size v is small (eqb-true (v % size) 0 h)))
      step true h false = refl
      step false h true = refl
      step false h false = refl

pub is_four : (size : ℕ) → IsSize size → (size ≡ 1 → ⊥) → (size ≡ 2 → ⊥) → size ≡ 4
is_four size (inl h) a b = absurd (a h)
is_four size (inr (inl h)) a b = absurd (b h)
is_four size (inr (inr h)) a b = h

-- the multiples of a size
pub multiples_are : (size : ℕ) (set : List ℕ) → set ≡ elements_of (λ x. x % size == 0 && is_within ((0, 4294967295) ∷ []) x) → IsSetOf (λ v. nat_eq (v % size) 0) set
multiples_are size set e v small = elements_are (λ x. x % size == 0 && is_within ((0, 4294967295) ∷ []) x) set e v small ∙ all_within (nat_eq (v % size) 0) v small
