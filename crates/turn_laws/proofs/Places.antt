-- Places that are given one by one.
use Rattle.std.proofs.Common.{◌≡◌, ℕ, ◌/◌, ◌%◌, ◌^◌, ◌<◌, Bool, true, false, eqb, ltb, if◌then◌else◌, List, [], ◌∷◌, length, length-set, Option, Some, None, refl, sym, ap, ◌∙◌, subst, inl, inr, arith}
use Rattle.std.proofs.lemmas.Bool.{cases_eq, eq-eqb, ne_eqb, lt-ltb}
use Rattle.rv_csr.specs.Table.{csr_key}
use Rattle.rv_script.specs.declared.place.Place.{Place}
use Rattle.rv_script.specs.declared.place.Place.TheVariants.{Reg, Csr, Word}
use Rattle.rv_script.specs.Folds.{Known}
use Rattle.rv_script.specs.Logs.{enlarged, or_else, same_place}
use Rattle.rv_script.proofs.Plays.{same_is}
use Rattle.part_laws.specs.Partial.{Partial, known_by, place_started, word_started}
use Rattle.part_machine.specs.Whole.{Whole, HasHart, fixed_in, hart_of}
use Rattle.part_state.specs.Meaning.{CanStart, IsNamed, IsTest, partial_of, place_given}
use Rattle.part_state.proofs.Keys.{same_known}
use Rattle.part_state.proofs.Meanings.{csr_partial, csr_untouched, register_partial, test_csr, test_register, test_word, untouched_none, word_partial, word_untouched}
use Rattle.turn_laws.specs.Given.{CanGive, IsAddressed, all_given, given_to, known_at}
use Rattle.turn_laws.specs.Laws.{IsBeside}

pub has : (k : ℕ) (w : Whole) → IsTest w → k < length w.harts → HasHart k w
has k w test l = record { first = omega (arith, l, test.first); now = l; trace = omega (arith, l, test.traces) }

-- ---- what is held of a hart tells what is known of it

abbrev known_of : Partial → ℕ → Known
known_of p k = known_by (p.harts k) p.memory

pub held : (k : ℕ) (w : Whole) → IsTest w → k < length w.harts → (place : Place) → known_at k w place ≡ known_of (partial_of w) k place
held k w test l place = sym (ap (λ (q : Known). q place) (same_known (hart_of k w) w.memory (test.fit k l)))

-- a change of the partial test that is that of one place
pub record IsOneMore (k : ℕ) (place : Place) (v : ℕ) (p q : Partial) : Type 0 where
  pub known : (other : Place) → IsNamed other → known_of q k other ≡ (if same_place place other then Some v else known_of p k other)
  pub fixed : (q.harts k).fixed ≡ (p.harts k).fixed

same_key : (k : ℕ) → eqb k k ≡ true
same_key k = eq-eqb k k refl

register_more : (k n v : ℕ) (p : Partial) → 0 < n → n < 32 → IsOneMore k (Reg n) v p (place_started k n v p)
register_more k n v p some small = record {
  known = go;
  fixed = rw (same_key k) refl;
}
  where
    go : (other : Place) → IsNamed other → known_of (place_started k n v p) k other ≡ (if same_place (Reg n) other then Some v else known_of p k other)
    go (Reg m) h = elim (cases_eq n m) [
      | inl same ↦
          let z : eqb m 0 ≡ false = ne_eqb m 0 (λ e. absurd (omega (arith, e, same, some))) in
          let s : ltb m 32 ≡ true = lt-ltb m 32 (omega (arith, same, small)) in
          rw (eq-eqb n m same, z, s, same_key k, eq-eqb m n (sym same)) refl
      | inr other ↦ rw (ne_eqb n m other, same_key k, ne_eqb m n (λ e. other (sym e))) refl
    ]
    go (Csr addr) h = rw (same_key k, ne_eqb (csr_key addr) n (λ e. absurd (omega (arith, e, small)))) refl
    go (Word addr) h = refl

csr_more : (k addr v : ℕ) (p : Partial) → IsOneMore k (Csr addr) v p (place_started k (csr_key addr) v p)
csr_more k addr v p = record {
  known = go;
  fixed = rw (same_key k) refl;
}
  where
    go : (other : Place) → IsNamed other → known_of (place_started k (csr_key addr) v p) k other ≡ (if same_place (Csr addr) other then Some v else known_of p k other)
    go (Reg m) h = rw (same_key k, ne_eqb m (csr_key addr) (λ e. absurd (omega (arith, e, h)))) refl
    go (Csr other) h = elim (cases_eq addr other) [
      | inl same ↦ rw (eq-eqb addr other same, same_key k, eq-eqb (csr_key other) (csr_key addr) (ap csr_key (sym same))) refl
      | inr apart ↦ rw (ne_eqb addr other apart, same_key k, ne_eqb (csr_key other) (csr_key addr) (λ e. apart (omega (arith, e)))) refl
    ]
    go (Word other) h = refl

word_more : (k addr v : ℕ) (p : Partial) → addr % 4 ≡ 0 → IsOneMore k (Word addr) v p (word_started (addr / 4) v p)
word_more k addr v p aligned = record {
  known = go;
  fixed = refl;
}
  where
    go : (other : Place) → IsNamed other → known_of (word_started (addr / 4) v p) k other ≡ (if same_place (Word addr) other then Some v else known_of p k other)
    go (Reg m) h = refl
    go (Csr other) h = refl
    go (Word other) h = elim (cases_eq addr other) [
      | inl same ↦ rw (eq-eqb addr other same, eq-eqb (other / 4) (addr / 4) (ap (λ (a : ℕ). a / 4) (sym same))) refl
      | inr apart ↦ rw (ne_eqb addr other apart, ne_eqb (other / 4) (addr / 4) (λ e. apart (omega (arith, e, aligned, h)))) refl
    ]

-- ---- one place

one_more : (k : ℕ) (place : Place) (v : ℕ) (w : Whole) → IsTest w → k < length w.harts → CanStart k place v w → IsOneMore k place v (partial_of w) (partial_of (place_given k place v w))
one_more k (Reg n) v w test l can =
    subst (IsOneMore k (Reg n) v (partial_of w)) (sym (register_partial k n v w (has k w test l) (test.fit_first k l) (test.fit k l) can.startable.0 can.startable.1)) (register_more k n v (partial_of w) can.startable.0 can.startable.1)
one_more k (Csr addr) v w test l can =
    let untouched = untouched_none (hart_of k w).csrs addr can.startable.0 can.startable.1 can.unknown in
    subst (IsOneMore k (Csr addr) v (partial_of w)) (sym (csr_partial k addr v w (has k w test l) (test.fit_first k l) (test.fit k l) (csr_untouched k addr w test (has k w test l) untouched))) (csr_more k addr v (partial_of w))
one_more k (Word addr) v w test l can =
    subst (IsOneMore k (Word addr) v (partial_of w)) (sym (word_partial addr v w (word_untouched addr w test can.startable.1 can.unknown))) (word_more k addr v (partial_of w) can.startable.0)

pub beside_one : (k : ℕ) (place : Place) (v : ℕ) (w : Whole) → IsBeside w (place_given k place v w)
beside_one k (Reg n) v w = record { traces = refl; feet = refl; names = refl; choices = refl; dropped = refl; harts = length-set w.harts k _ }
beside_one k (Csr addr) v w = record { traces = refl; feet = refl; names = refl; choices = refl; dropped = refl; harts = length-set w.harts k _ }
beside_one k (Word addr) v w = record { traces = refl; feet = refl; names = refl; choices = refl; dropped = refl; harts = refl }

pub test_one : (k : ℕ) (place : Place) (v : ℕ) (w : Whole) → IsTest w → k < length w.harts → CanStart k place v w → IsAddressed place → v < 2 ^ 32 → IsTest (place_given k place v w)
test_one k (Reg n) v w test l can address fits = test_register k n v w test (has k w test l) can.startable.0 can.startable.1 can.unknown
test_one k (Csr addr) v w test l can address fits =
    test_csr k addr v w test (has k w test l) (csr_untouched k addr w test (has k w test l) (untouched_none (hart_of k w).csrs addr can.startable.0 can.startable.1 can.unknown))
test_one k (Word addr) v w test l can address fits = test_word addr v w test address fits (word_untouched addr w test can.startable.1 can.unknown)

pub known_one : (k : ℕ) (place : Place) (v : ℕ) (w : Whole) → IsTest w → k < length w.harts → CanStart k place v w → IsAddressed place → v < 2 ^ 32
    → (other : Place) → IsNamed other → known_at k (place_given k place v w) other ≡ (if same_place place other then Some v else known_at k w other)
known_one k place v w test l can address fits other named =
    let more = one_more k place v w test l can in
    let new : IsTest (place_given k place v w) = test_one k place v w test l can address fits in
    let b = beside_one k place v w in
    held k (place_given k place v w) new (omega (arith, l, b.harts)) other
    ∙ more.known other named
    ∙ ap (λ (o : Option ℕ). if same_place place other then Some v else o) (sym (held k w test l other))

fixed_one : (k : ℕ) (place : Place) (v : ℕ) (w : Whole) → IsTest w → k < length w.harts → CanStart k place v w → fixed_in (hart_of k (place_given k place v w)) (place_given k place v w).memory ≡ fixed_in (hart_of k w) w.memory
fixed_one k place v w test l can = (one_more k place v w test l can).fixed

-- ---- all places

pub beside : (k : ℕ) (es : List (Place × ℕ)) (w : Whole) → IsBeside w (all_given k es w)
beside k [] w = record { traces = refl; feet = refl; names = refl; choices = refl; dropped = refl; harts = refl }
beside k (e ∷ es) w =
    let one = beside_one k e.0 e.1 w in
    let rest = beside k es (place_given k e.0 e.1 w) in
    record {
      traces = rest.traces ∙ one.traces;
      feet = rest.feet ∙ one.feet;
      names = rest.names ∙ one.names;
      choices = rest.choices ∙ one.choices;
      dropped = rest.dropped ∙ one.dropped;
      harts = rest.harts ∙ one.harts;
    }

pub tests : (k : ℕ) (es : List (Place × ℕ)) (w : Whole) → IsTest w → k < length w.harts → CanGive k es w → IsTest (all_given k es w)
tests k [] w test l can = test
tests k (e ∷ es) w test l can =
    let b = beside_one k e.0 e.1 w in
    tests k es (place_given k e.0 e.1 w) (test_one k e.0 e.1 w test l can.0 can.1 can.2) (omega (arith, l, b.harts)) can.3

pub fixed_parts : (k : ℕ) (es : List (Place × ℕ)) (w : Whole) → IsTest w → k < length w.harts → CanGive k es w → fixed_in (hart_of k (all_given k es w)) (all_given k es w).memory ≡ fixed_in (hart_of k w) w.memory
fixed_parts k [] w test l can = refl
fixed_parts k (e ∷ es) w test l can =
    let b = beside_one k e.0 e.1 w in
    fixed_parts k es (place_given k e.0 e.1 w) (test_one k e.0 e.1 w test l can.0 can.1 can.2) (omega (arith, l, b.harts)) can.3 ∙ fixed_one k e.0 e.1 w test l can.0

-- a place that is given had no value
chained : (known : Option ℕ) (same : Bool) (v : ℕ) (rest : Option ℕ) → (same ≡ true → known ≡ None) → or_else (if same then Some v else known) rest ≡ or_else known (if same then Some v else rest)
chained known true v rest none = ap (λ (o : Option ℕ). or_else o (Some v)) (sym (none refl))
chained known false v rest none = refl

pub known : (k : ℕ) (es : List (Place × ℕ)) (w : Whole) → IsTest w → k < length w.harts → CanGive k es w → (place : Place) → IsNamed place → known_at k (all_given k es w) place ≡ enlarged (known_at k w) (given_to es) place
known k [] w test l can place named = nothing (known_at k w place)
  where
    nothing : (o : Option ℕ) → o ≡ or_else o None
    nothing None = refl
    nothing (Some v) = refl
known k (e ∷ es) w test l can place named =
    let b = beside_one k e.0 e.1 w in
    known k es (place_given k e.0 e.1 w) (test_one k e.0 e.1 w test l can.0 can.1 can.2) (omega (arith, l, b.harts)) can.3 place named
    ∙ ap (λ (o : Option ℕ). or_else o (given_to es place)) (known_one k e.0 e.1 w test l can.0 can.1 can.2 place named)
    ∙ chained (known_at k w place) (same_place e.0 place) e.1 (given_to es place) (λ same. subst (λ (q : Place). known_at k w q ≡ None) (same_is e.0 place same) can.0.unknown)
