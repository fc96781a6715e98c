-- All triples, one after another.
use Rattle.std.proofs.Common.{◌≡◌, ◌≢◌, ℕ, zero, suc, ◌+◌, ◌*◌, ◌/◌, ◌%◌, ◌^◌, ◌<◌, ◌≤◌, inl, inr, Bool, true, false, ◌&&◌, ◌||◌, cond, eqb, ltb, leb, List, ◌∷◌, filter, refl, sym, ap, ◌∙◌, arith}
use Rattle.std.specs.declared.cmp.Ordering.{Ordering}
use Rattle.std.specs.declared.cmp.Ordering.TheVariants.{Less, Equal, Greater}
use Rattle.std.specs.List.{AllByRecursion}
use Rattle.std.specs.List.Sorted.{IsStrictlySortedBy}
use Rattle.std.specs.Ordering.{nat_cmp, ordering_then}
use Rattle.std.proofs.lemmas.Bool.{cases_eq, cases_lt, eq-eqb, ne_eqb, ltb-true, lt-ltb, le-ltb, and_parts, and_from, false_from_ne_true}
use Rattle.std.proofs.lemmas.Bool.Decides.{nat_tests}
use Rattle.std.proofs.lemmas.List.Kept.{IsStrictlySortedBy-filter}
use Rattle.rv_script.specs.declared.access.Role.{Role}
use Rattle.rv_script.specs.declared.access.Role.TheVariants.{Fetch, Walk, Load, Store}
use Rattle.foot_map.specs.declared.touch.Touch.{Touch}
use Rattle.foot_map.specs.Order.{rank, by_place, IsInOrder}
use Rattle.foot_map.specs.Touches.{has, is_triple}
use Rattle.foot_map.specs.Pages.{role_at, numbered, numbered_from, touches_of}
use Rattle.foot_map.proofs.Orders.{triple, triple_is}

-- the number of a triple
abbrev pub number : ℕ → ℕ → Role → ℕ
number b h r = b * 1024 + h * 4 + rank r

rank_lt : (r : Role) → rank r < 4
rank_lt Fetch = omega arith
rank_lt Walk = omega arith
rank_lt Load = omega arith
rank_lt Store = omega arith

role_again : (r : Role) → role_at (rank r) ≡ r
role_again Fetch = refl
role_again Walk = refl
role_again Load = refl
role_again Store = refl

rank_again : (n : ℕ) → n < 4 → rank (role_at n) ≡ n
rank_again zero lt = refl
rank_again (suc zero) lt = refl
rank_again (suc (suc zero)) lt = refl
rank_again (suc (suc (suc zero))) lt = refl
rank_again (suc (suc (suc (suc n)))) lt = absurd (omega arith)

again : (b h : ℕ) (r : Role) → h < 256 → numbered (number b h r) ≡ triple b h r
again b h r lt =
    let l = rank_lt r in
    let byte : number b h r / 1024 ≡ b = omega arith in
    let hart : number b h r / 4 % 256 ≡ h = omega arith in
    let role : number b h r % 4 ≡ rank r = omega arith in
    (λ i. triple (byte i) (hart i) (role_at (role i))) ∙ ap (triple b h) (role_again r)

number_again : (n : ℕ) → number (n / 1024) (n / 4 % 256) (role_at (n % 4)) ≡ n
number_again n =
    let l : n % 4 < 4 = omega arith in
    let is = rank_again (n % 4) l in
    omega arith

-- the triple with a number is this one where the number is its own
is_number : (n b h : ℕ) (r : Role) → h < 256 → is_triple (numbered n) b h r ≡ eqb n (number b h r)
is_number n b h r lt = elim (cases_eq n (number b h r)) [
  | inl same ↦ (
      ap (λ (t : Touch). is_triple t b h r) (ap numbered same ∙ again b h r lt)
      ∙ and_from _ _ (eq-eqb b b refl) (and_from _ _ (eq-eqb h h refl) (eq-eqb (rank r) (rank r) refl))
      ∙ sym (eq-eqb n (number b h r) same)
      )
  | inr other ↦ (
      false_from_ne_true (is_triple (numbered n) b h r) (λ is. other (sym (number_again n) ∙ ap (λ (t : Touch). number t.byte t.hart t.role) (triple_is (numbered n) b h r is)))
      ∙ sym (ne_eqb n (number b h r) other)
      )
]

-- ---- which triples are listed

abbrev among : (Touch → Bool) → ℕ → ℕ → List Touch
among test start n = filter test (numbered_from start n)

none_there : (x : ℕ) (t : Bool) → false ≡ ((leb x x && ltb x (x + 0)) && t)
none_there x t = grind (arith, nat_tests)

nowhere : (start k : ℕ) (t : Bool) → false ≡ ((leb start k && ltb k (start + 0)) && t)
nowhere start k t = grind (arith, nat_tests)

passed_here : (start k n : ℕ) (t rest : Bool) → start ≡ k → t ≡ true → (true || rest) ≡ ((leb start k && ltb k (start + suc n)) && t)
passed_here start k n t rest is passed = grind (arith, nat_tests)

failed_here : (start k n : ℕ) (t : Bool) → start ≡ k → t ≡ false → ((leb (start + 1) k && ltb k (start + 1 + n)) && t) ≡ ((leb start k && ltb k (start + suc n)) && t)
failed_here start k n t is failed = grind (arith, nat_tests)

not_here : (start k n : ℕ) (t : Bool) → start ≢ k → ((leb (start + 1) k && ltb k (start + 1 + n)) && t) ≡ ((leb start k && ltb k (start + suc n)) && t)
not_here start k n t ne = grind (arith, nat_tests)

has_among : (test : Touch → Bool) (b h : ℕ) (r : Role) → h < 256 → (start n : ℕ)
    → has (among test start n) b h r ≡ ((leb start (number b h r) && ltb (number b h r) (start + n)) && test (triple b h r))
unfolding numbered_from
has_among test b h r lt start zero = nowhere start (number b h r) (test (triple b h r))
has_among test b h r lt start (suc n) = step (test (numbered start)) refl (has_among test b h r lt (start + 1) n) where
  step : (a : Bool) → test (numbered start) ≡ a
      → has (among test (start + 1) n) b h r ≡ ((leb (start + 1) (number b h r) && ltb (number b h r) (start + 1 + n)) && test (triple b h r))
      → has (cond a (numbered start ∷ among test (start + 1) n) (among test (start + 1) n)) b h r ≡ ((leb start (number b h r) && ltb (number b h r) (start + suc n)) && test (triple b h r))
  step true e ih = elim (cases_eq start (number b h r)) [
    | inl here ↦ (
        ap (λ (p : Bool). p || has (among test (start + 1) n) b h r) (is_number start b h r lt ∙ eq-eqb start (number b h r) here)
        ∙ passed_here start (number b h r) n (test (triple b h r)) (has (among test (start + 1) n) b h r) here (ap test (sym (ap numbered here ∙ again b h r lt)) ∙ e)
        )
    | inr other ↦ (
        ap (λ (p : Bool). p || has (among test (start + 1) n) b h r) (is_number start b h r lt ∙ ne_eqb start (number b h r) other)
        ∙ ih ∙ not_here start (number b h r) n (test (triple b h r)) other
        )
  ]
  step false e ih = elim (cases_eq start (number b h r)) [
    | inl here ↦ ih ∙ failed_here start (number b h r) n (test (triple b h r)) here (ap test (sym (ap numbered here ∙ again b h r lt)) ∙ e)
    | inr other ↦ ih ∙ not_here start (number b h r) n (test (triple b h r)) other
  ]

no_hart : (n b h : ℕ) (r : Role) → 256 ≤ h → is_triple (numbered n) b h r ≡ false
no_hart n b h r le = false_from_ne_true (is_triple (numbered n) b h r) (λ is.
    let same : n / 4 % 256 ≡ h = ap (λ (t : Touch). t.hart) (triple_is (numbered n) b h r is) in
    omega arith)

has_no_hart : (test : Touch → Bool) (b h : ℕ) (r : Role) → 256 ≤ h → (start n : ℕ) → has (among test start n) b h r ≡ false
unfolding numbered_from
has_no_hart test b h r le start zero = refl
has_no_hart test b h r le start (suc n) = step (test (numbered start)) (has_no_hart test b h r le (start + 1) n) where
  step : (a : Bool) → has (among test (start + 1) n) b h r ≡ false → has (cond a (numbered start ∷ among test (start + 1) n) (among test (start + 1) n)) b h r ≡ false
  step true ih = (λ i. no_hart start b h r le i || ih i)
  step false ih = ih

-- a byte of 32 bits and one of 256 harts
abbrev pub is_possible : ℕ → ℕ → Bool
is_possible b h = ltb b (2 ^ 32) && ltb h 256

within : (b h n : ℕ) (t : Bool) → h < 256 → n < 4 → ((leb 0 (b * 1024 + h * 4 + n) && ltb (b * 1024 + h * 4 + n) (0 + 2 ^ 42)) && t) ≡ ((ltb b (2 ^ 32) && ltb h 256) && t)
within b h n t lt ln = elim (cases_lt b (2 ^ 32)) [
  | inl below ↦ (
      let low : b * 1024 + h * 4 + n < 0 + 2 ^ 42 = omega arith in
      rw (lt-ltb (b * 1024 + h * 4 + n) (0 + 2 ^ 42) low, lt-ltb b (2 ^ 32) below, lt-ltb h 256 lt, zero_le (b * 1024 + h * 4 + n)) refl
      )
  | inr above ↦ (
      let high : 0 + 2 ^ 42 ≤ b * 1024 + h * 4 + n = omega arith in
      rw (le-ltb (b * 1024 + h * 4 + n) (0 + 2 ^ 42) high, le-ltb b (2 ^ 32) above, zero_le (b * 1024 + h * 4 + n)) refl
      )
] where
  zero_le : (k : ℕ) → leb 0 k ≡ true
  zero_le k = grind (arith, nat_tests)

out : (b h : ℕ) (t : Bool) → 256 ≤ h → false ≡ ((ltb b (2 ^ 32) && ltb h 256) && t)
out b h t le = sym (false_from_ne_true _ (λ is. let lt = ltb-true h 256 (and_parts (ltb b (2 ^ 32)) (ltb h 256) (and_parts (ltb b (2 ^ 32) && ltb h 256) t is).0).1 in omega arith))

-- the listed triples are those that pass
pub has_touches : (test : Touch → Bool) (b h : ℕ) (r : Role) → has (touches_of test) b h r ≡ (is_possible b h && test (triple b h r))
unfolding touches_of
has_touches test b h r = elim (cases_lt h 256) [
  | inl lt ↦ has_among test b h r lt 0 (2 ^ 42) ∙ within b h (rank r) (test (triple b h r)) lt (rank_lt r)
  | inr le ↦ has_no_hart test b h r le 0 (2 ^ 42) ∙ out b h (test (triple b h r)) le
]

-- ---- in order

cmp_below : (m n : ℕ) → m < n → nat_cmp m n ≡ Less
cmp_below m n lt = ap (λ (b : Bool). cond b Less (cond (eqb m n) Equal Greater)) (lt-ltb m n lt)

cmp_itself : (m n : ℕ) → m ≡ n → nat_cmp m n ≡ Equal
cmp_itself m n is = (λ i. cond (le-ltb m n (omega arith) i) Less (cond (eq-eqb m n is i) Equal Greater))

later : (m n : ℕ) → m < n → by_place (numbered m) (numbered n) ≡ Less
later m n lt = elim (cases_lt (m / 1024) (n / 1024)) [
  | inl byte ↦ ap (λ (o : Ordering). ordering_then o rest) (cmp_below (m / 1024) (n / 1024) byte)
  | inr past ↦ (
      ap (λ (o : Ordering). ordering_then o rest) (cmp_itself (m / 1024) (n / 1024) (omega arith))
      ∙ elim (cases_lt (m / 4 % 256) (n / 4 % 256)) [
        | inl hart ↦ ap (λ (o : Ordering). ordering_then o roles) (cmp_below (m / 4 % 256) (n / 4 % 256) hart)
        | inr same ↦ (
            ap (λ (o : Ordering). ordering_then o roles) (cmp_itself (m / 4 % 256) (n / 4 % 256) (omega arith))
            ∙ cmp_below (rank (role_at (m % 4))) (rank (role_at (n % 4))) (omega (arith, rank_again (m % 4) (omega arith), rank_again (n % 4) (omega arith)))
            )
      ]
      )
] where
  roles : Ordering
  roles = nat_cmp (rank (role_at (m % 4))) (rank (role_at (n % 4)))

  rest : Ordering
  rest = ordering_then (nat_cmp (m / 4 % 256) (n / 4 % 256)) roles

all_later : (m start n : ℕ) → m < start → AllByRecursion (λ u. by_place (numbered m) u ≡ Less) (numbered_from start n)
unfolding numbered_from
all_later m start zero lt = tt
all_later m start (suc n) lt = (later m start lt, all_later m (start + 1) n (omega arith))

ascending : (start n : ℕ) → IsStrictlySortedBy by_place (numbered_from start n)
unfolding numbered_from IsStrictlySortedBy
ascending start zero = tt
ascending start (suc n) = (all_later start (start + 1) n (omega arith), ascending (start + 1) n)

pub in_order : (test : Touch → Bool) → IsInOrder (touches_of test)
unfolding touches_of
in_order test = IsStrictlySortedBy-filter by_place test (numbered_from 0 (2 ^ 42)) (ascending 0 (2 ^ 42))
