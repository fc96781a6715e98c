-- What a start gives when places are given one by one.
use Rattle.std.proofs.Common.{◌≡◌, ℕ, ◌/◌, ◌<◌, Bool, true, false, eqb, ltb, if◌then◌else◌, List, [], ◌∷◌, length, Option, Some, None, refl, sym, ap, ◌∙◌, subst, inl, inr, arith}
use Rattle.std.specs.Option.{is_some}
use Rattle.std.proofs.lemmas.Bool.{cases_eq, eq-eqb, eqb-true, lt-ltb, ne_eqb}
use Rattle.rv_csr.specs.Table.{csr_key}
use Rattle.rv_script.specs.declared.place.Place.{Place}
use Rattle.rv_script.specs.declared.place.Place.TheVariants.{Reg, Csr, Word}
use Rattle.rv_script.specs.Logs.{same_place}
use Rattle.rv_script.proofs.Plays.{same_is}
use Rattle.part_laws.specs.Partial.{Partial, place_started, with_place, with_value, word_started}
use Rattle.part_machine.specs.Whole.{Whole, hart_of}
use Rattle.part_state.specs.Meaning.{CanStart, IsTest, partial_of, place_given}
use Rattle.part_state.proofs.Meanings.{csr_partial, csr_untouched, register_partial, untouched_none, word_partial, word_untouched}
use Rattle.turn_laws.specs.Given.{CanGive, all_given, given_to}
use Rattle.turn_laws.specs.Laws.{GivesRegisters, IsStartOn, StartsGrow}
use Rattle.turn_laws.proofs.Places.{beside_one, has, held, test_one}

none_of : (o p : Option ℕ) → (is_some o ≡ true → is_some p ≡ true) → p ≡ None → o ≡ None
none_of None p h e = refl
none_of (Some v) p h e = let f : is_some p ≡ false = ap is_some e in let g : is_some p ≡ true = h refl in absurd (cc)

same_none : (o p : Option ℕ) → is_some o ≡ is_some p → o ≡ None → p ≡ None
same_none o None h e = refl
same_none o (Some v) h e = let f : is_some o ≡ false = ap is_some e in absurd (cc)

pub start_same : (p : Partial) → IsStartOn p p
start_same p = record { fixed = λ j. refl; places = λ j key v h. h; words = λ n v h. h }

pub start_then : (p q r : Partial) → IsStartOn p q → IsStartOn q r → IsStartOn p r
start_then p q r a b = record { fixed = λ j. b.fixed j ∙ a.fixed j; places = λ j key v h. b.places j key v (a.places j key v h); words = λ n v h. b.words n v (a.words n v h) }

-- ---- one place

with_one : (key v : ℕ) (given : ℕ → Option ℕ) (other u : ℕ) → given key ≡ None → given other ≡ Some u → with_value key v given other ≡ Some u
with_one key v given other u none h = elim (cases_eq other key) [
  | inl same ↦ absurd (cc (sym none ∙ ap given (sym same) ∙ h))
  | inr apart ↦ ap (λ (b : Bool). if b then Some v else given other) (ne_eqb other key apart) ∙ h
]

fixed_on : (k key v : ℕ) (p : Partial) (j : ℕ) (b : Bool) → eqb j k ≡ b → (if b then with_place key v (p.start k) else p.start j).fixed ≡ (p.start j).fixed
fixed_on k key v p j true is = ap (λ (i : ℕ). (p.start i).fixed) (sym (eqb-true j k is))
fixed_on k key v p j false is = refl

places_on : (k key v : ℕ) (p : Partial) → (p.start k).places key ≡ None → (j other u : ℕ) → (p.start j).places other ≡ Some u → (b : Bool) → eqb j k ≡ b → (if b then with_place key v (p.start k) else p.start j).places other ≡ Some u
places_on k key v p none j other u h true is = with_one key v (p.start k).places other u none (ap (λ (i : ℕ). (p.start i).places other) (sym (eqb-true j k is)) ∙ h)
places_on k key v p none j other u h false is = h

place_on : (k key v : ℕ) (p : Partial) → (p.start k).places key ≡ None → IsStartOn p (place_started k key v p)
place_on k key v p none = record {
  fixed = λ j. fixed_on k key v p j (eqb j k) refl;
  places = λ j other u h. places_on k key v p none j other u h (eqb j k) refl;
  words = λ n u h. h;
}

word_on : (n v : ℕ) (p : Partial) → p.words n ≡ None → IsStartOn p (word_started n v p)
word_on n v p none = record { fixed = λ j. refl; places = λ j key u h. h; words = λ m u h. with_one n v p.words m u none h }

start_one : (k : ℕ) (place : Place) (v : ℕ) (w : Whole) → IsTest w → k < length w.harts → CanStart k place v w → IsStartOn (partial_of w) (partial_of (place_given k place v w))
start_one k (Reg n) v w test l can =
    let z : eqb n 0 ≡ false = ne_eqb n 0 (λ e. let some = can.startable.0 in absurd (omega (arith, e, some))) in
    let s : ltb n 32 ≡ true = lt-ltb n 32 can.startable.1 in
    let p : Partial = partial_of w in
    let none : (p.harts k).places n ≡ None =
    sym (ap (λ (b : Bool). if b then Some 0 else (if ltb n 32 then (p.harts k).places n else None)) z ∙ ap (λ (b : Bool). if b then (p.harts k).places n else None) s) ∙ sym (held k w test l (Reg n)) ∙ can.unknown in
    subst (IsStartOn p) (sym (register_partial k n v w (has k w test l) (test.fit_first k l) (test.fit k l) can.startable.0 can.startable.1))
    (place_on k n v p (none_of ((p.start k).places n) ((p.harts k).places n) (test.test.given k n) none))
start_one k (Csr addr) v w test l can =
    let p : Partial = partial_of w in
    let untouched = untouched_none (hart_of k w).csrs addr can.startable.0 can.startable.1 can.unknown in
    let none : (p.harts k).places (csr_key addr) ≡ None = sym (held k w test l (Csr addr)) ∙ can.unknown in
    subst (IsStartOn p) (sym (csr_partial k addr v w (has k w test l) (test.fit_first k l) (test.fit k l) (csr_untouched k addr w test (has k w test l) untouched)))
    (place_on k (csr_key addr) v p (none_of ((p.start k).places (csr_key addr)) ((p.harts k).places (csr_key addr)) (test.test.given k (csr_key addr)) none))
start_one k (Word addr) v w test l can =
    let p : Partial = partial_of w in
    subst (IsStartOn p) (sym (word_partial addr v w (word_untouched addr w test can.startable.1 can.unknown))) (word_on (addr / 4) v p (same_none (p.memory (addr / 4)) (p.words (addr / 4)) (test.test.known (addr / 4)) can.unknown))

register_one : (k n v : ℕ) (w : Whole) → IsTest w → k < length w.harts → CanStart k (Reg n) v w → ((partial_of (place_given k (Reg n) v w)).start k).places n ≡ Some v
register_one k n v w test l can =
    ap (λ (p : Partial). (p.start k).places n) (register_partial k n v w (has k w test l) (test.fit_first k l) (test.fit k l) can.startable.0 can.startable.1)
    ∙ rw (eq-eqb k k refl, eq-eqb n n refl) refl

-- ---- all places

pub starts_grow : StartsGrow
starts_grow k [] w test l can = start_same (partial_of w)
starts_grow k (e ∷ es) w test l can =
    let b = beside_one k e.0 e.1 w in
    start_then (partial_of w) (partial_of (place_given k e.0 e.1 w)) (partial_of (all_given k (e ∷ es) w)) (start_one k e.0 e.1 w test l can.0)
    (starts_grow k es (place_given k e.0 e.1 w) (test_one k e.0 e.1 w test l can.0 can.1 can.2) (omega (arith, l, b.harts)) can.3)

pub gives_registers : GivesRegisters
gives_registers k [] w n v test l can given = absurd (cc given)
gives_registers k (e ∷ es) w n v test l can given =
    let b = beside_one k e.0 e.1 w in
    let new : IsTest (place_given k e.0 e.1 w) = test_one k e.0 e.1 w test l can.0 can.1 can.2 in
    let more : k < length (place_given k e.0 e.1 w).harts = omega (arith, l, b.harts) in
    go (same_place e.0 (Reg n)) refl given new more (gives_registers k es (place_given k e.0 e.1 w) n v new more can.3)
  where
    go : (same : Bool) → same_place e.0 (Reg n) ≡ same → (if same then Some e.1 else given_to es (Reg n)) ≡ Some v → IsTest (place_given k e.0 e.1 w) → k < length (place_given k e.0 e.1 w).harts
        → (given_to es (Reg n) ≡ Some v → ((partial_of (all_given k es (place_given k e.0 e.1 w))).start k).places n ≡ Some v) → ((partial_of (all_given k es (place_given k e.0 e.1 w))).start k).places n ≡ Some v
    go true is h new more rest =
        let at : e.0 ≡ Reg n = same_is e.0 (Reg n) is in
        let value : e.1 ≡ v = cc h in
        let one : ((partial_of (place_given k e.0 e.1 w)).start k).places n ≡ Some e.1 =
        subst (λ (q : Place). ((partial_of (place_given k q e.1 w)).start k).places n ≡ Some e.1) (sym at) (register_one k n e.1 w test l (subst (λ (q : Place). CanStart k q e.1 w) at can.0)) in
        (starts_grow k es (place_given k e.0 e.1 w) new more can.3).places k n v (one ∙ ap (λ (u : ℕ). Some u) value)
    go false is h new more rest = rest h

-- ---- the other harts

-- what is held of a hart, now and at the start
record IsHeldAs (j : ℕ) (p q : Partial) : Type 0 where
  pub now : q.harts j ≡ p.harts j
  pub first : q.start j ≡ p.start j

other_place : (k key v : ℕ) (p : Partial) (j : ℕ) → (j ≡ k → ⊥) → IsHeldAs j p (place_started k key v p)
other_place k key v p j apart = record { now = rw (ne_eqb j k apart) refl; first = rw (ne_eqb j k apart) refl }

other_one : (k : ℕ) (place : Place) (v : ℕ) (w : Whole) → IsTest w → k < length w.harts → CanStart k place v w → (j : ℕ) → (j ≡ k → ⊥) → IsHeldAs j (partial_of w) (partial_of (place_given k place v w))
other_one k (Reg n) v w test l can j apart =
    subst (IsHeldAs j (partial_of w)) (sym (register_partial k n v w (has k w test l) (test.fit_first k l) (test.fit k l) can.startable.0 can.startable.1)) (other_place k n v (partial_of w) j apart)
other_one k (Csr addr) v w test l can j apart =
    let untouched = untouched_none (hart_of k w).csrs addr can.startable.0 can.startable.1 can.unknown in
    subst (IsHeldAs j (partial_of w)) (sym (csr_partial k addr v w (has k w test l) (test.fit_first k l) (test.fit k l) (csr_untouched k addr w test (has k w test l) untouched))) (other_place k (csr_key addr) v (partial_of w) j apart)
other_one k (Word addr) v w test l can j apart =
    subst (IsHeldAs j (partial_of w)) (sym (word_partial addr v w (word_untouched addr w test can.startable.1 can.unknown))) (record { now = refl; first = refl })

pub others_stay : (k : ℕ) (es : List (Place × ℕ)) (w : Whole) → IsTest w → k < length w.harts → CanGive k es w → (j : ℕ) → (j ≡ k → ⊥)
    → ((partial_of (all_given k es w)).harts j ≡ (partial_of w).harts j) × ((partial_of (all_given k es w)).start j ≡ (partial_of w).start j)
others_stay k [] w test l can j apart = (refl, refl)
others_stay k (e ∷ es) w test l can j apart =
    let b = beside_one k e.0 e.1 w in
    let one = other_one k e.0 e.1 w test l can.0 j apart in
    let rest = others_stay k es (place_given k e.0 e.1 w) (test_one k e.0 e.1 w test l can.0 can.1 can.2) (omega (arith, l, b.harts)) can.3 j apart in
    (rest.0 ∙ one.now, rest.1 ∙ one.first)
