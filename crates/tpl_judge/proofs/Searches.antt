-- Searches by halves among pairs by ascending key.
use Rattle.std.proofs.Common.{◌≡◌, ℕ, zero, suc, ◌+◌, ◌<◌, ◌≤◌, ◌||◌, Bool, true, false, not, cond, eqb, leb, ltb, List, [], ◌∷◌, length, Option, Some, None, refl, sym, ap, ◌∙◌, inl, inr, arith}
use Rattle.std.specs.Option.{is_some, unwrap_or}
use Rattle.std.specs.List.{list_all, slice_get, slice_index_or}
use Rattle.std.specs.List.Sorted.{IsPartitionedBy, IsPartitionPoint}
use Rattle.std.proofs.lemmas.Bool.{and_parts, cases_Bool, cases_lt, eqb-false, eqb-true, false_from_ne_true, le-leb, leb-true, lt-ltb, ltb-false, ltb-true}
use Rattle.tpl_lang.specs.Faults.{has_key}
use Rattle.tpl_lang.specs.Statements.{value_at}
use Rattle.tpl_state.specs.Internal.Ordered.{is_ascending}
use Rattle.tpl_judge.specs.Internal.Entries.{place_of, value_in, value_of}

-- ---- keys rise

pub not_below : (a b : ℕ) → not (ltb a b) ≡ true → b ≤ a
not_below a b h = elim (cases_Bool (ltb a b)) [
  | inl y ↦ absurd (cc (ap not y, h))
  | inr n ↦ ltb-false a b n
]

behind_at : (low k : ℕ) (es : List (ℕ × ℕ)) (x : ℕ × ℕ) → list_all (λ d. not (ltb d.0 low)) es ≡ true → k < length es → low ≤ (slice_index_or es k x).0
behind_at low k [] x all within = absurd (omega (arith, within))
behind_at low zero (e ∷ es) x all within = not_below e.0 low (and_parts (not (ltb e.0 low)) (list_all (λ d. not (ltb d.0 low)) es) all).0
behind_at low (suc k) (e ∷ es) x all within = behind_at low k es x (and_parts (not (ltb e.0 low)) (list_all (λ d. not (ltb d.0 low)) es) all).1 (omega (arith, within))

rises : (es : List (ℕ × ℕ)) (i j : ℕ) (x : ℕ × ℕ) → is_ascending es ≡ true → i < j → j < length es → (slice_index_or es i x).0 ≤ (slice_index_or es j x).0
rises [] i j x order less within = absurd (omega (arith, within))
rises (e ∷ es) i zero x order less within = absurd (omega (arith, less))
rises (e ∷ es) zero (suc j) x order less within = behind_at e.0 j es x (and_parts (list_all (λ d. not (ltb d.0 e.0)) es) (is_ascending es) order).0 (omega (arith, within))
rises (e ∷ es) (suc i) (suc j) x order less within = rises es i j x (and_parts (list_all (λ d. not (ltb d.0 e.0)) es) (is_ascending es) order).1 (omega (arith, less)) (omega (arith, within))

pub rising : (es : List (ℕ × ℕ)) (i j : ℕ) (x : ℕ × ℕ) → is_ascending es ≡ true → i ≤ j → j < length es → (slice_index_or es i x).0 ≤ (slice_index_or es j x).0
rising es i j x order le within = elim (cases_lt i j) [
  | inl less ↦ rises es i j x order less within
  | inr over ↦
      let same : j ≡ i = omega (arith, le, over) in
      let keys : (slice_index_or es j x).0 ≡ (slice_index_or es i x).0 = ap (λ (k : ℕ). (slice_index_or es k x).0) same in
      omega (arith, keys)
]

abbrev pub is_below : ℕ → ℕ × ℕ → Bool
is_below key e = ltb e.0 key

abbrev pub is_up_to : ℕ → ℕ × ℕ → Bool
is_up_to key e = leb e.0 key

pub below_parted : (es : List (ℕ × ℕ)) (key : ℕ) → is_ascending es ≡ true → IsPartitionedBy (is_below key) es
below_parted es key order = λ i j x le within holds.
    lt-ltb (slice_index_or es i x).0 key (omega (arith, rising es i j x order le within, ltb-true (slice_index_or es j x).0 key holds))

pub up_to_parted : (es : List (ℕ × ℕ)) (key : ℕ) → is_ascending es ≡ true → IsPartitionedBy (is_up_to key) es
up_to_parted es key order = λ i j x le within holds.
    le-leb (slice_index_or es i x).0 key (omega (arith, rising es i j x order le within, leb-true (slice_index_or es j x).0 key holds))

-- ---- where a pair goes

up_to_not_below : (key : ℕ) (e : ℕ × ℕ) → leb e.0 key ≡ true → ltb key e.0 ≡ false
up_to_not_below key e h = false_from_ne_true (ltb key e.0) (λ below. omega (arith, leb-true e.0 key h, ltb-true key e.0 below))

not_up_to_below : (key : ℕ) (e : ℕ × ℕ) → leb e.0 key ≡ false → ltb key e.0 ≡ true
not_up_to_below key e h = elim (cases_Bool (ltb key e.0)) [
  | inl below ↦ below
  | inr over ↦ absurd (cc (le-leb e.0 key (ltb-false key e.0 over), h))
]

pub placed : (es : List (ℕ × ℕ)) (key i : ℕ) → i ≤ length es → IsPartitionPoint (λ e. is_up_to key e ≡ true) (λ e. is_up_to key e ≡ false) es i → i ≡ place_of key es
placed [] key i within point = omega (arith, within)
placed (e ∷ es) key zero within point = rw (not_up_to_below key e (point.1 0 e (omega arith) (omega arith))) refl
placed (e ∷ es) key (suc i) within point =
    go (ltb key e.0) (up_to_not_below key e (point.0 0 e (omega arith) (omega arith)))
    (placed es key i (omega (arith, within)) (λ k x low high. point.0 (suc k) x (omega arith) (omega (arith, high)), λ k x low high. point.1 (suc k) x (omega (arith, low)) (omega (arith, high))))
  where
    go : (b : Bool) → b ≡ false → i ≡ place_of key es → suc i ≡ cond b 0 (place_of key es + 1)
    go true is rest = absurd (cc is)
    go false is rest = omega (arith, rest)

-- ---- what stands at a key

abbrev pub value_there : ℕ → Option (ℕ × ℕ) → Option ℕ
value_there key None = None
value_there key (Some e) = value_in key e

none_behind : (key low : ℕ) (es : List (ℕ × ℕ)) → key < low → list_all (λ d. not (ltb d.0 low)) es ≡ true → value_of key es ≡ None
none_behind key low [] less all = refl
none_behind key low (d ∷ es) less all =
    let parts = and_parts (not (ltb d.0 low)) (list_all (λ d. not (ltb d.0 low)) es) all in
    let other : eqb d.0 key ≡ false = false_from_ne_true (eqb d.0 key) (λ same. omega (arith, less, not_below d.0 low parts.0, eqb-true d.0 key same)) in
    ap (λ (b : Bool). cond b (Some d.1) (value_of key es)) other ∙ none_behind key low es less parts.1

pub found : (es : List (ℕ × ℕ)) (key i : ℕ) → is_ascending es ≡ true → IsPartitionPoint (λ e. is_below key e ≡ true) (λ e. is_below key e ≡ false) es i → value_there key (slice_get es i) ≡ value_of key es
found [] key i order point = refl
found (e ∷ es) key zero order point =
    let reached : key ≤ e.0 = ltb-false e.0 key (point.1 0 e (omega arith) (omega arith)) in
    elim (cases_Bool (eqb e.0 key)) [
      | inl same ↦ rw same refl
      | inr other ↦
          let less : key < e.0 = omega (arith, reached, eqb-false e.0 key other) in
          ap (λ (b : Bool). cond b (Some e.1) None) other
          ∙ sym (ap (λ (b : Bool). cond b (Some e.1) (value_of key es)) other ∙ none_behind key e.0 es less (and_parts (list_all (λ d. not (ltb d.0 e.0)) es) (is_ascending es) order).0)
    ]
found (e ∷ es) key (suc i) order point =
    let below : e.0 < key = ltb-true e.0 key (point.0 0 e (omega arith) (omega arith)) in
    let other : eqb e.0 key ≡ false = false_from_ne_true (eqb e.0 key) (λ same. omega (arith, below, eqb-true e.0 key same)) in
    found es key i (and_parts (list_all (λ d. not (ltb d.0 e.0)) es) (is_ascending es) order).1
    (λ k x low high. point.0 (suc k) x (omega arith) (omega (arith, high)), λ k x low high. point.1 (suc k) x (omega (arith, low)) (omega (arith, high)))
    ∙ sym (ap (λ (b : Bool). cond b (Some e.1) (value_of key es)) other)

-- ---- what it tells

pub has_its_value : (key : ℕ) (es : List (ℕ × ℕ)) → is_some (value_of key es) ≡ has_key es key
has_its_value key [] = refl
has_its_value key (e ∷ es) = go (eqb e.0 key) (has_its_value key es)
  where
    go : (b : Bool) → is_some (value_of key es) ≡ has_key es key → is_some (cond b (Some e.1) (value_of key es)) ≡ (b || has_key es key)
    go true rest = refl
    go false rest = rest

pub value_or_none : (key : ℕ) (es : List (ℕ × ℕ)) → unwrap_or (value_of key es) 0 ≡ value_at es key
value_or_none key [] = refl
value_or_none key (e ∷ es) = go (eqb e.0 key) (value_or_none key es)
  where
    go : (b : Bool) → unwrap_or (value_of key es) 0 ≡ value_at es key → unwrap_or (cond b (Some e.1) (value_of key es)) 0 ≡ cond b e.1 (value_at es key)
    go true rest = refl
    go false rest = rest
