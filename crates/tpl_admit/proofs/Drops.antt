-- A search through dropped biases in order.
use Rattle.std.proofs.Common.{◌≡◌, ℕ, zero, suc, ◌+◌, ◌<◌, ◌&&◌, ◌||◌, eqb, Bool, true, false, List, [], ◌∷◌, length, Option, Some, None, refl, sym, ◌∙◌, subst, ap, inl, inr, arith}
use Rattle.std.specs.List.{list_all, list_any, slice_get, slice_index_or}
use Rattle.std.specs.List.Sorted.{IsPartitionedBy, IsPartitionPoint}
use Rattle.std.proofs.lemmas.Bool.{and_from, and_parts, cases_Bool, cases_lt, eqb-true}
use Rattle.tpl_admit.specs.declared.admission.Unmet.{Unmet}
use Rattle.tpl_admit.specs.declared.dropped.Dropped.{Dropped}
use Rattle.tpl_admit.specs.Admitting.{comes_before, is_drop}
use Rattle.tpl_admit.specs.Internal.Ordered.{is_ascending, stands_before}
use Rattle.tpl_admit.specs.WellFormed.{AreDropped, drop_place}
use Rattle.tpl_admit.proofs.Order.{before_turned, never_before_itself, never_true, not_before_step, placed_before}

abbrev place : ℕ → ℕ → ℕ → Unmet
place hart step atom = record { hart = hart; step = step; atom = atom }

abbrev at : Dropped → Unmet
at d = place d.hart d.step d.atom

-- ---- a certificate's are in order

behind : (harts from : ℕ) (ds : List Dropped) (d : Dropped) → d.step < 8192 → d.atom < 32 → drop_place d < from → AreDropped harts from ds → list_all (λ e. stands_before e.hart e.step e.atom d) ds ≡ true
behind harts from [] d step atom before are = refl
behind harts from (e ∷ ds) d step atom before are =
    let less : drop_place d < drop_place e = omega (arith, before, are.3) in
    and_from (stands_before e.hart e.step e.atom d) (list_all (λ e. stands_before e.hart e.step e.atom d) ds)
    (placed_before (at d) (at e) step are.1 atom are.2 less)
    (behind harts (drop_place e + 1) ds d step atom (omega (arith, less)) are.4)

pub ascending : (harts from : ℕ) (ds : List Dropped) → AreDropped harts from ds → is_ascending ds ≡ true
ascending harts from [] are = refl
ascending harts from (d ∷ ds) are =
    and_from (list_all (λ e. stands_before e.hart e.step e.atom d) ds) (is_ascending ds)
    (behind harts (drop_place d + 1) ds d are.1 are.2 (omega arith) are.4)
    (ascending harts (drop_place d + 1) ds are.4)

-- ---- where the search ends

each_at : (test : Dropped → Bool) (ds : List Dropped) (k : ℕ) (x : Dropped) → list_all test ds ≡ true → k < length ds → test (slice_index_or ds k x) ≡ true
each_at test [] k x all within = absurd (omega (arith, within))
each_at test (d ∷ ds) zero x all within = (and_parts (test d) (list_all test ds) all).0
each_at test (d ∷ ds) (suc k) x all within = each_at test ds k x (and_parts (test d) (list_all test ds) all).1 (omega (arith, within))

in_order : (ds : List Dropped) (i j : ℕ) (x : Dropped) → is_ascending ds ≡ true → i < j → j < length ds → comes_before (at (slice_index_or ds i x)) (at (slice_index_or ds j x)) ≡ true
in_order [] i j x order less within = absurd (omega (arith, within))
in_order (d ∷ ds) i zero x order less within = absurd (omega (arith, less))
in_order (d ∷ ds) zero (suc j) x order less within =
    each_at (λ e. stands_before e.hart e.step e.atom d) ds j x (and_parts (list_all (λ e. stands_before e.hart e.step e.atom d) ds) (is_ascending ds) order).0 (omega (arith, within))
in_order (d ∷ ds) (suc i) (suc j) x order less within =
    in_order ds i j x (and_parts (list_all (λ e. stands_before e.hart e.step e.atom d) ds) (is_ascending ds) order).1 (omega (arith, less)) (omega (arith, within))

-- what stands before one that stands before a place stands before it too
earlier : (d e : Dropped) (hart step atom : ℕ) → comes_before (at d) (at e) ≡ true → stands_before hart step atom e ≡ true → stands_before hart step atom d ≡ true
earlier d e hart step atom less holds = elim (cases_Bool (stands_before hart step atom d)) [
  | inl holds_too ↦ holds_too
  | inr not_so ↦ absurd (never_true (stands_before hart step atom e) holds (not_before_step (at e) (at d) (place hart step atom) (before_turned (at d) (at e) less) not_so))
]

pub parted : (ds : List Dropped) (hart step atom : ℕ) → is_ascending ds ≡ true → IsPartitionedBy (stands_before hart step atom) ds
parted ds hart step atom order = λ i j x le within holds. elim (cases_lt i j) [
  | inl less ↦ earlier (slice_index_or ds i x) (slice_index_or ds j x) hart step atom (in_order ds i j x order less within) holds
  | inr over ↦
      let same : j ≡ i = omega (arith, le, over) in
      subst (λ (k : ℕ). stands_before hart step atom (slice_index_or ds k x) ≡ true) same holds
]

-- ---- what the search finds

drop_is : (hart step atom : ℕ) (d : Dropped) → is_drop hart step atom d ≡ true → at d ≡ place hart step atom
drop_is hart step atom d is =
    let parts = and_parts (eqb d.hart hart) (eqb d.step step && eqb d.atom atom) is in
    let rest = and_parts (eqb d.step step) (eqb d.atom atom) parts.1 in
    λ i. place (eqb-true d.hart hart parts.0 i) (eqb-true d.step step rest.0 i) (eqb-true d.atom atom rest.1 i)

never_found : (hart step atom : ℕ) (d : Dropped) → (at d ≡ place hart step atom → ⊥) → is_drop hart step atom d ≡ false
never_found hart step atom d never = elim (cases_Bool (is_drop hart step atom d)) [
  | inl is ↦ absurd (never (drop_is hart step atom d is))
  | inr never_so ↦ never_so
]

not_before : (hart step atom : ℕ) (d : Dropped) → stands_before hart step atom d ≡ true → at d ≡ place hart step atom → ⊥
not_before hart step atom d before same =
    never_true (stands_before hart step atom d) before (subst (λ (f : Unmet). comes_before f (place hart step atom) ≡ false) (sym same) (never_before_itself (place hart step atom)))

none_behind : (hart step atom : ℕ) (d : Dropped) (ds : List Dropped) → list_all (λ e. stands_before e.hart e.step e.atom d) ds ≡ true → stands_before hart step atom d ≡ false → list_any (is_drop hart step atom) ds ≡ false
none_behind hart step atom d [] all never_so = refl
none_behind hart step atom d (e ∷ ds) all never_so =
    let parts = and_parts (stands_before e.hart e.step e.atom d) (list_all (λ e. stands_before e.hart e.step e.atom d) ds) all in
    let here : is_drop hart step atom e ≡ false =
    never_found hart step atom e (λ same. never_true (stands_before hart step atom d) (subst (λ (f : Unmet). comes_before (at d) f ≡ true) same parts.0) never_so) in
    ap (λ (b : Bool). b || list_any (is_drop hart step atom) ds) here ∙ none_behind hart step atom d ds parts.1 never_so

-- the one at a place in the list, if there is one
abbrev pub is_drop_at : ℕ → ℕ → ℕ → Option Dropped → Bool
is_drop_at hart step atom None = false
is_drop_at hart step atom (Some d) = is_drop hart step atom d

or_false : (a b : Bool) → b ≡ false → (a || b) ≡ a
or_false true b none = refl
or_false false b none = none

pub found : (ds : List Dropped) (hart step atom i : ℕ) → is_ascending ds ≡ true → IsPartitionPoint (λ d. stands_before hart step atom d ≡ true) (λ d. stands_before hart step atom d ≡ false) ds i → is_drop_at hart step atom (slice_get ds i) ≡ list_any (is_drop hart step atom) ds
found [] hart step atom i order point = refl
found (d ∷ ds) hart step atom zero order point =
    sym (or_false (is_drop hart step atom d) (list_any (is_drop hart step atom) ds)
    (none_behind hart step atom d ds (and_parts (list_all (λ e. stands_before e.hart e.step e.atom d) ds) (is_ascending ds) order).0 (point.1 0 d (omega arith) (omega arith))))
found (d ∷ ds) hart step atom (suc i) order point =
    let passed : is_drop hart step atom d ≡ false = never_found hart step atom d (not_before hart step atom d (point.0 0 d (omega arith) (omega arith))) in
    found ds hart step atom i (and_parts (list_all (λ e. stands_before e.hart e.step e.atom d) ds) (is_ascending ds) order).1
    (λ k x low high. point.0 (suc k) x (omega arith) (omega (arith, high)), λ k x low high. point.1 (suc k) x (omega (arith, low)) (omega (arith, high)))
    ∙ sym (ap (λ (b : Bool). b || list_any (is_drop hart step atom) ds) passed)
