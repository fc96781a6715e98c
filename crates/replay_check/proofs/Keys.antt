-- Values in pairs whose keys ascend.
use Rattle.std.proofs.Common.{◌≡◌, ◌≢◌, ℕ, zero, suc, ◌+◌, ◌<◌, ◌≤◌, true, eqb, List, [], ◌∷◌, length, get_or, Option, Some, None, refl, sym, ap, ◌∙◌, subst, inl, inr, arith}
use Rattle.std.specs.Prelude.{◌↔◌, IsTrue}
use Rattle.std.specs.Option.{option_eq}
use Rattle.std.specs.declared.cmp.Ordering.TheVariants.{Less, Equal, Greater}
use Rattle.std.specs.List.Sorted.{IsNonDecreasingBy, IsPartitionPoint}
use Rattle.std.specs.Ordering.{nat_cmp, ordering_index}
use Rattle.std.proofs.lemmas.Bool.{cases_Bool, cases_lt, cases_order, eq-eqb, eqb-true, ne_eqb, lt-ltb, le-ltb, le-leb, leb-true, and_parts, and_from}
use Rattle.tpl_ast.specs.declared.template.Region.{Region}
use Rattle.tpl_admit.specs.Starts.{lookup}
use Rattle.tpl_ast.specs.States.{is_key, ArePlaces, AreStartWords, is_in_ram}
use Rattle.replay_check.specs.Internal.Memory.{is_ascending}

pub places_ascend : (from : ℕ) (es : List (ℕ × ℕ)) → ArePlaces from es → is_ascending from es ≡ true
places_ascend from [] is = refl
places_ascend from (e ∷ es) is = and_from _ _ (le-leb from e.0 is.0) (places_ascend (e.0 + 1) es is.3)

-- the keys of ascending pairs are not below the first
not_below : (from : ℕ) (es : List (ℕ × ℕ)) (i : ℕ) (d : ℕ × ℕ) → is_ascending from es ≡ true → i < length es → from ≤ (get_or es i d).0
not_below from [] i d up within = absurd (omega (arith, within))
not_below from (e ∷ es) zero d up within = leb-true from e.0 (and_parts _ _ up).0
not_below from (e ∷ es) (suc i) d up within =
    let first = leb-true from e.0 (and_parts _ _ up).0 in
    let later : e.0 + 1 ≤ (get_or es i d).0 = not_below (e.0 + 1) es i d (and_parts _ _ up).1 (omega (arith, within)) in
    omega (arith, first, later)

pub found_at : (from : ℕ) (es : List (ℕ × ℕ)) (i key : ℕ) (d : ℕ × ℕ) → is_ascending from es ≡ true → i < length es → (get_or es i d).0 ≡ key → lookup es key ≡ Some (get_or es i d).1
found_at from [] i key d up within is = absurd (omega (arith, within))
found_at from (e ∷ es) zero key d up within is = rw (eq-eqb e.0 key is) refl
found_at from (e ∷ es) (suc i) key d up within is =
    let up' = (and_parts _ _ up).1 in
    let within' : i < length es = omega (arith, within) in
    let later : e.0 + 1 ≤ (get_or es i d).0 = not_below (e.0 + 1) es i d up' within' in
    let other : e.0 ≢ key = λ same. absurd (omega (arith, same, is, later)) in
    rw (ne_eqb e.0 key other) (found_at (e.0 + 1) es i key d up' within' is)

pub found_nowhere : (es : List (ℕ × ℕ)) (key : ℕ) → ((i : ℕ) (d : ℕ × ℕ) → i < length es → (get_or es i d).0 ≢ key) → lookup es key ≡ None
found_nowhere [] key none = refl
found_nowhere (e ∷ es) key none =
    rw (ne_eqb e.0 key (none 0 (0, 0) (omega arith))) (found_nowhere es key (λ i d within. none (suc i) d (omega (arith, within))))

-- what has no key of a place has no value
pub found_no_key : (from : ℕ) (es : List (ℕ × ℕ)) (key : ℕ) → ArePlaces from es → (is_key key ≡ true → ⊥) → lookup es key ≡ None
found_no_key from [] key is none = refl
found_no_key from (e ∷ es) key is none =
    let other : e.0 ≢ key = λ same. none (subst (λ (n : ℕ). is_key n ≡ true) same is.1) in
    rw (ne_eqb e.0 key other) (found_no_key (e.0 + 1) es key is.3 none)

-- a word that is given lies in RAM
pub found_in : (ram : List Region) (from : ℕ) (ws : List (ℕ × ℕ)) (a v : ℕ) → AreStartWords ram from ws → lookup ws a ≡ Some v → is_in_ram ram a ≡ true
found_in ram from [] a v is e = absurd (cc e)
found_in ram from (w ∷ ws) a v is e = elim (cases_Bool (eqb w.0 a)) [
  | inl here ↦ subst (λ (n : ℕ). is_in_ram ram n ≡ true) (eqb-true w.0 a here) is.2
  | inr other ↦ found_in ram (w.0 + 4) ws a v is.4 (rw other at e)
]

-- ---- what a binary search by key says

cmp_less : (a k : ℕ) → a < k → nat_cmp a k ≡ Less
cmp_less a k below = rw (lt-ltb a k below) refl

cmp_same : (a k : ℕ) → a ≡ k → nat_cmp a k ≡ Equal
cmp_same a k same = rw (le-ltb a k (omega (arith, same)), eq-eqb a k same) refl

cmp_greater : (a k : ℕ) → k < a → nat_cmp a k ≡ Greater
cmp_greater a k above = rw (le-ltb a k (omega (arith, above)), ne_eqb a k (λ e. absurd (omega (arith, e, above)))) refl

cmp_equal : (a k : ℕ) → nat_cmp a k ≡ Equal → a ≡ k
cmp_equal a k e = elim (cases_order a k) [
  | inl same ↦ same
  | inr apart ↦ elim apart [
    | inl below ↦ (let no : Less ≡ Equal = sym (cmp_less a k below) ∙ e in absurd (cc no))
    | inr above ↦ (let no : Greater ≡ Equal = sym (cmp_greater a k above) ∙ e in absurd (cc no))
  ]
]

cmp_rises : (a b k : ℕ) → a ≤ b → ordering_index (nat_cmp a k) ≤ ordering_index (nat_cmp b k)
cmp_rises a b k up = elim (cases_order a k) [
  | inl same ↦ rw (cmp_same a k same) (elim (cases_order b k) [
    | inl also ↦ rw (cmp_same b k also) (omega arith)
    | inr apart ↦ elim apart [ inl below ↦ absurd (omega (arith, same, up, below)) | inr above ↦ rw (cmp_greater b k above) (omega arith) ]
  ])
  | inr apart ↦ elim apart [
    | inl below ↦ rw (cmp_less a k below) (omega arith)
    | inr above ↦ rw (cmp_greater a k above, cmp_greater b k (omega (arith, above, up))) (omega arith)
  ]
]

rises : (from : ℕ) (es : List (ℕ × ℕ)) (i j : ℕ) (d : ℕ × ℕ) → is_ascending from es ≡ true → i ≤ j → j < length es → (get_or es i d).0 ≤ (get_or es j d).0
rises from [] i j d up order within = absurd (omega (arith, within))
rises from (e ∷ es) zero zero d up order within = omega arith
rises from (e ∷ es) zero (suc j) d up order within =
    let later : e.0 + 1 ≤ (get_or es j d).0 = not_below (e.0 + 1) es j d (and_parts _ _ up).1 (omega (arith, within)) in omega (arith, later)
rises from (e ∷ es) (suc i) zero d up order within = absurd (omega (arith, order))
rises from (e ∷ es) (suc i) (suc j) d up order within = rises (e.0 + 1) es i j d (and_parts _ _ up).1 (omega (arith, order)) (omega (arith, within))

pub key_found : (es : List (ℕ × ℕ)) (key i : ℕ) (d : ℕ × ℕ) → is_ascending 0 es ≡ true → i < length es → nat_cmp (get_or es i d).0 key ≡ Equal → lookup es key ≡ Some (get_or es i d).1
key_found es key i d up within is = found_at 0 es i key d up within (cmp_equal (get_or es i d).0 key is)

pub key_missed : (es : List (ℕ × ℕ)) (key i : ℕ) → is_ascending 0 es ≡ true
    → (IsNonDecreasingBy (λ (y : ℕ × ℕ). ordering_index (nat_cmp y.0 key)) es → IsPartitionPoint (λ (y : ℕ × ℕ). nat_cmp y.0 key ≡ Less) (λ (y : ℕ × ℕ). nat_cmp y.0 key ≡ Greater) es i)
    → lookup es key ≡ None
key_missed es key i up searched = found_nowhere es key other
  where
    point : IsPartitionPoint (λ (y : ℕ × ℕ). nat_cmp y.0 key ≡ Less) (λ (y : ℕ × ℕ). nat_cmp y.0 key ≡ Greater) es i
    point = searched (λ a b d order within. cmp_rises (get_or es a d).0 (get_or es b d).0 key (rises 0 es a b d up order within))

    other : (k : ℕ) (d : ℕ × ℕ) → k < length es → (get_or es k d).0 ≢ key
    other k d within same = elim (cases_lt k i) [
      | inl below ↦ (let no : Less ≡ Equal = sym (point.0 k d (omega arith) below) ∙ cmp_same (get_or es k d).0 key same in absurd (cc no))
      | inr above ↦ (let no : Greater ≡ Equal = sym (point.1 k d above within) ∙ cmp_same (get_or es k d).0 key same in absurd (cc no))
    ]

-- ---- known values

pub same_values : (a b : Option ℕ) → IsTrue (option_eq eqb a b) ↔ (a ≡ b)
same_values None None = (λ is. refl, λ e. refl)
same_values None (Some y) = (λ is. absurd (cc is), λ e. absurd (cc e))
same_values (Some x) None = (λ is. absurd (cc is), λ e. absurd (cc e))
same_values (Some x) (Some y) = (λ is. ap (λ (n : ℕ). Some n) (eqb-true x y is), λ e. let same : x ≡ y = cc e in eq-eqb x y same)
