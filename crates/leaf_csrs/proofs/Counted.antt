-- Sets of numbers that are told one by one.
use Rattle.std.proofs.Common.{◌≡◌, ℕ, zero, suc, ◌+◌, ◌<◌, ◌≤◌, ◌%◌, ◌&&◌, ◌||◌, Bool, true, false, eqb, ltb, List, [], ◌∷◌, Option, Some, None, get_or, length, refl, sym, ap, ◌∙◌, inl, inr, arith}
use Rattle.std.specs.Bool.{◌==◌}
use Rattle.std.specs.List.{filter}
use Rattle.std.specs.Prelude.{slice_get}
use Rattle.std.specs.Option.{is_some}
use Rattle.std.proofs.lemmas.Bool.{cases_eq, cases_lt, eq-eqb, le-ltb, lt-ltb, ne_eqb}
use Rattle.std.proofs.lemmas.Bool.Decides.{nat_tests}
use Rattle.dom_set.specs.Elements.{elements_of, is_in, is_within}
use Rattle.leaf_link.specs.Cases.{is_some_word}
use Rattle.data_bytes.specs.Sets.{IsSetOf}
use Rattle.leaf_stand.specs.Stands.{held}
use Rattle.leaf_stand.proofs.Sets.{elements_are, filter_leaves}

-- ranges, of which the sets of numbers are made
multiple_of_one : (v : ℕ) (b : Bool) → (v % 1 == 0 && b) ≡ b
multiple_of_one v b = (let one : (v % 1 == 0) ≡ true = grind (arith, nat_tests) in ap (λ (c : Bool). c && b) one)

pub ranges_are : (pairs : List (ℕ × ℕ)) (set : List ℕ) → set ≡ elements_of (λ x. x % 1 == 0 && is_within pairs x) → IsSetOf (is_within pairs) set
ranges_are pairs set e v small = elements_are (λ x. x % 1 == 0 && is_within pairs x) set e v small ∙ multiple_of_one v (is_within pairs v)

-- the words of two sets
pub in_both : (p q : ℕ → Bool) (set other left : List ℕ) → IsSetOf p set → IsSetOf q other → left ≡ filter (is_in other) set → IsSetOf (λ v. p v && q v) left
in_both p q set other left h k e v small =
    filter_leaves (is_in other) set left e v small ∙ ap (λ (b : Bool). b && is_in other v) (h v small) ∙ ap (λ (b : Bool). p v && b) (k v small)

or_none : (a : Bool) → (a || false) ≡ a
or_none true = refl
or_none false = refl

-- numbers below a place
below_next : (n v : ℕ) (here there : Bool) → (v ≡ n → there ≡ here) → ((ltb v n && there) || (eqb n v && here)) ≡ (ltb v (n + 1) && there)
below_next n v here there same = elim (cases_eq n v) [
  | inl e ↦
      ap (λ (b : Bool). (b && there) || (eqb n v && here)) (le-ltb v n (omega arith))
      ∙ ap (λ (b : Bool). b && here) (eq-eqb n v e)
      ∙ sym (same (sym e))
      ∙ sym (ap (λ (b : Bool). b && there) (lt-ltb v (n + 1) (omega arith)))
  | inr d ↦
      ap (λ (b : Bool). (ltb v n && there) || (b && here)) (ne_eqb n v d)
      ∙ or_none (ltb v n && there)
      ∙ ap (λ (b : Bool). b && there) (elim (cases_lt v n) [
        | inl lt ↦ lt-ltb v n lt ∙ sym (lt-ltb v (n + 1) (omega arith))
        | inr le ↦ le-ltb v n le ∙ sym (le-ltb v (n + 1) (omega (arith, d)))
      ])
]

-- known registers
abbrev pub is_known : List (Option ℕ) → ℕ → Bool
is_known xs v = is_some_word (held (slice_get xs v))

some_same : (o : Option ℕ) → is_some_word o ≡ is_some o
some_same None = refl
some_same (Some v) = refl

known_item : (xs : List (Option ℕ)) (n : ℕ) → n < length xs → is_known xs n ≡ is_some (get_or xs n None)
known_item [] n h = absurd (omega arith)
known_item (x ∷ xs) zero h = some_same x
known_item (x ∷ xs) (suc n) h = known_item xs n (omega arith)

known_past : (xs : List (Option ℕ)) (v : ℕ) → length xs ≤ v → is_known xs v ≡ false
known_past [] v h = refl
known_past (x ∷ xs) zero h = absurd (omega arith)
known_past (x ∷ xs) (suc v) h = known_past xs v (omega arith)

pub known_next : (xs : List (Option ℕ)) (n : ℕ) (here : Bool) (old new : List (ℕ × ℕ)) → n < length xs → here ≡ is_some (get_or xs n None)
    → ((v : ℕ) → is_within old v ≡ (ltb v n && is_known xs v))
    → ((v : ℕ) → is_within new v ≡ (is_within old v || (eqb n v && here)))
    → (v : ℕ) → is_within new v ≡ (ltb v (n + 1) && is_known xs v)
known_next xs n here old new lt e before step v =
    step v
    ∙ ap (λ (b : Bool). b || (eqb n v && here)) (before v)
    ∙ below_next n v here (is_known xs v) (λ same. ap (is_known xs) same ∙ known_item xs n lt ∙ sym e)

pub known_all : (xs : List (Option ℕ)) (n : ℕ) (pairs : List (ℕ × ℕ)) → length xs ≤ n → ((v : ℕ) → is_within pairs v ≡ (ltb v n && is_known xs v)) → (v : ℕ) → is_within pairs v ≡ is_known xs v
known_all xs n pairs le inv v = elim (cases_lt v n) [
  | inl lt ↦ inv v ∙ ap (λ (b : Bool). b && is_known xs v) (lt-ltb v n lt)
  | inr past ↦ inv v ∙ ap (λ (b : Bool). b && is_known xs v) (le-ltb v n past) ∙ sym (known_past xs v (omega arith))
]
