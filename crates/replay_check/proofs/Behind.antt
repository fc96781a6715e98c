-- The accesses of records, one after another.
use Rattle.std.proofs.Common.{◌≡◌, ℕ, zero, suc, ◌+◌, ◌<◌, true, false, eqb, Option, Some, None, List, [], ◌∷◌, ◌++◌, length, take, get_or, refl, sym, ap, ◌∙◌, subst, inl, inr, arith, append_assoc}
use Rattle.std.proofs.Math.Path.{fun_ext}
use Rattle.std.proofs.lemmas.Bool.{cases_Bool, cases_eq, cases_lt, eq-eqb, ne_eqb, lt-ltb, le-ltb}
use Rattle.std.proofs.lemmas.List.{append-nil, take_more, get_or_past, get_or_default}
use Rattle.std.specs.List.{All}
use Rattle.std.specs.Option.{is_some}
use Rattle.std.proofs.lemmas.List.Elements.{All-get_or}
use Rattle.std.proofs.lemmas.Option.{same_Some}
use Rattle.rv_script.specs.declared.access.Access.{Access}
use Rattle.rv_script.specs.Lists.{HasItem}
use Rattle.rv_script.proofs.Items.{has_either, has_first, has_second}
use Rattle.rv_hart.specs.declared.record.Record.{Record}
use Rattle.rv_hart.specs.Effects.{IsInWord}
use Rattle.foot_map.specs.Touches.{IsInWord as IsInWordAt}
use Rattle.foot_map.specs.Races.{IsRaceFree, with_access}
use Rattle.tpl_admit.specs.declared.certificate.Cert.{Cert}
use Rattle.tpl_admit.specs.Starts.{trace_of}
use Rattle.tpl_admit.specs.Races.{footprint_of, footprints_of}
use Rattle.replay_check.specs.Failures.{RacesFrom, did_before}
use Rattle.replay_check.specs.Internal.Racing.{with_accesses, RacesAt}

-- ---- accesses put behind one another

pub none_more : (did : ℕ → List Access) (k : ℕ) → with_accesses did k [] ≡ did
none_more did k = fun_ext (λ j. elim (cases_eq j k) [
  | inl here ↦ rw (eq-eqb j k here) (append-nil (did k) ∙ ap did (sym here))
  | inr other ↦ rw (ne_eqb j k other) refl
])

pub both_more : (did : ℕ → List Access) (k : ℕ) (xs ys : List Access) → with_accesses (with_accesses did k xs) k ys ≡ with_accesses did k (xs ++ ys)
both_more did k xs ys = fun_ext (λ j. elim (cases_eq j k) [
  | inl here ↦ rw (eq-eqb j k here, eq-eqb k k refl) (append_assoc (did k) xs ys)
  | inr other ↦ rw (ne_eqb j k other) refl
])

pub one_more : (did : ℕ → List Access) (k : ℕ) (xs : List Access) (i : ℕ) (d : Access) → i < length xs
    → with_access (with_accesses did k (take i xs)) k (get_or xs i d) ≡ with_accesses did k (take (i + 1) xs)
one_more did k xs i d within = both_more did k (take i xs) (get_or xs i d ∷ []) ∙ ap (with_accesses did k) (sym (take_more xs i d within))

-- what stands in a front stands in the whole
front_has : (xs : List Access) (n : ℕ) (x : Access) → HasItem (take n xs) x → HasItem xs x
front_has [] zero x has = has
front_has [] (suc n) x has = has
front_has (y ∷ xs) zero x has = absurd has
front_has (y ∷ xs) (suc n) x (inl here) = inl here
front_has (y ∷ xs) (suc n) x (inr there) = inr (front_has xs n x there)

-- fewer accesses of the same hart
pub fewer : (did : ℕ → List Access) (k : ℕ) (xs ys : List Access) → ((x : Access) → HasItem xs x → HasItem ys x) → (j : ℕ) (x : Access) → HasItem (with_accesses did k xs j) x → HasItem (with_accesses did k ys j) x
fewer did k xs ys sub j x = elim (cases_Bool (eqb j k)) [
  | inl here ↦ rw here (λ has. elim (has_either (did k) xs x has) [ inl before ↦ has_first (did k) ys x before | inr now ↦ has_second (did k) ys x (sub x now) ])
  | inr other ↦ rw other (λ has. has)
]

pub front_fewer : (did : ℕ → List Access) (k : ℕ) (xs : List Access) (n : ℕ) (j : ℕ) (x : Access) → HasItem (with_accesses did k (take n xs) j) x → HasItem (with_accesses did k xs j) x
front_fewer did k xs n = fewer did k (take n xs) xs (front_has xs n)

-- ---- records

pub footprint_append : (rs qs : List Record) → footprint_of (rs ++ qs) ≡ footprint_of rs ++ footprint_of qs
footprint_append [] qs = refl
footprint_append (r ∷ rs) qs = ap (λ (xs : List Access). r.accesses ++ xs) (footprint_append rs qs) ∙ sym (append_assoc r.accesses (footprint_of rs) (footprint_of qs))

pub one_record : (rs : List Record) (i : ℕ) (r : Record) → i < length rs → r ≡ get_or rs i r → footprint_of (take (i + 1) rs) ≡ footprint_of (take i rs) ++ r.accesses
one_record rs i r within is =
    ap footprint_of (take_more rs i r within ∙ ap (λ (q : Record). take i rs ++ q ∷ []) (sym is))
    ∙ footprint_append (take i rs) (r ∷ []) ∙ ap (λ (xs : List Access). footprint_of (take i rs) ++ xs) (append-nil r.accesses)

pub next_record : (did : ℕ → List Access) (k : ℕ) (rs : List Record) (i : ℕ) (r : Record) → i < length rs → r ≡ get_or rs i r
    → with_accesses (with_accesses did k (footprint_of (take i rs))) k r.accesses ≡ with_accesses did k (footprint_of (take (i + 1) rs))
next_record did k rs i r within is = both_more did k (footprint_of (take i rs)) r.accesses ∙ ap (with_accesses did k) (sym (one_record rs i r within is))

-- ---- harts

pub none_before : (c : Cert) → did_before c 0 0 ≡ (λ (k : ℕ). [])
none_before c = fun_ext (λ j. elim (cases_Bool (eqb j 0)) [ inl here ↦ rw (le-ltb j 0 (omega arith), here) refl | inr other ↦ rw (le-ltb j 0 (omega arith), other) refl ])

pub some_before : (c : Cert) (k n : ℕ) → with_accesses (did_before c k 0) k (footprint_of (take n (trace_of c k))) ≡ did_before c k n
some_before c k n = fun_ext (λ j. elim (cases_eq j k) [
  | inl here ↦ rw (eq-eqb j k here, le-ltb j k (omega (arith, here)), le-ltb k k (omega arith), eq-eqb k k refl) (ap (λ (i : ℕ). footprint_of (take n (trace_of c i))) (sym here))
  | inr other ↦ rw (ne_eqb j k other) refl
])

pub all_before : (c : Cert) (k : ℕ) → with_accesses (did_before c k 0) k (footprint_of (trace_of c k)) ≡ did_before c (k + 1) 0
all_before c k = fun_ext (λ j. elim (cases_lt j k) [
  | inl below ↦ rw (ne_eqb j k (λ e. omega (arith, e, below)), lt-ltb j k below, lt-ltb j (k + 1) (omega (arith, below))) refl
  | inr from ↦ elim (cases_eq j k) [
    | inl here ↦ rw (eq-eqb j k here, le-ltb k k (omega arith), eq-eqb k k refl, lt-ltb j (k + 1) (omega (arith, here))) (ap (λ (i : ℕ). footprint_of (trace_of c i)) (sym here))
    | inr other ↦ rw (ne_eqb j k other, le-ltb j k from, le-ltb j (k + 1) (omega (arith, from, other))) (elim (cases_Bool (eqb j (k + 1))) [ inl next ↦ rw next refl | inr later ↦ rw later refl ])
  ]
])

pub whole_before : (c : Cert) → length c.traces ≡ length c.start → did_before c (length c.traces) 0 ≡ footprints_of (trace_of c)
whole_before c same = fun_ext (λ j. elim (cases_lt j (length c.traces)) [
  | inl below ↦ rw (lt-ltb j (length c.traces) below) refl
  | inr past ↦
      let none : trace_of c j ≡ [] = get_or_past c.traces j [] past in
      rw (le-ltb j (length c.traces) past) ((elim (cases_Bool (eqb j (length c.traces))) [ inl here ↦ rw here refl | inr other ↦ rw other refl ]) ∙ sym (ap footprint_of none))
])

pub none_race : IsRaceFree (λ (k : ℕ). [])
none_race = record { harts = λ j k ne x y hx hy meet. absurd hx; code = λ j k x y hx hy code meet. absurd hx }

-- ---- what is answered

pub one_there : {A : Type 0} (o : Option A) → is_some o ≡ true → (x : A) × (o ≡ Some x)
one_there None some = absurd (cc some)
one_there (Some x) some = (x, refl)

pub none_there : {A : Type 0} (o : Option A) → is_some o ≡ false → o ≡ None
none_there None none = refl
none_there (Some x) none = absurd (cc none)

pub in_word : (xs : List Access) (i : ℕ) (d : Access) → i < length xs → All IsInWord xs → IsInWordAt (get_or xs i d).addr (get_or xs i d).size
in_word xs i d within all = let is = All-get_or IsInWord xs i d within all in (is.some, is.within)

-- the trace of a hart in a list
pub trace_is : (c : Cert) (traces : List (List Record)) (k : ℕ) (rs : List Record) → traces ≡ c.traces → k < length traces → rs ≡ get_or traces k rs → rs ≡ trace_of c k
trace_is c traces k rs same within is = is ∙ get_or_default traces k rs [] within ∙ ap (λ (l : List (List Record)). get_or l k []) same

-- the first record of a hart that races is that of the certificate
pub from_races : (c : Cert) (k s hart step : ℕ) → (let was : Option (ℕ × ℕ) = Some (k, s) in was ≡ Some (hart, step)) → k < length c.start → RacesAt (did_before c k 0) k (trace_of c k) s → RacesFrom c hart step
from_races c k s hart step told there at =
    let pair : Path (ℕ × ℕ) (k, s) (hart, step) = same_Some (k, s) (hart, step) told in
    let first : k ≡ hart = ap (λ (p : ℕ × ℕ). p.0) pair in
    let second : s ≡ step = ap (λ (p : ℕ × ℕ). p.1) pair in
    let from : RacesFrom c k s = record {
      there = there;
      at = at.at;
      before = subst IsRaceFree (some_before c k s) at.before;
      races = λ more. at.races (subst IsRaceFree (sym (some_before c k (s + 1))) more);
    } in
    subst (λ (n : ℕ). RacesFrom c n step) first (subst (RacesFrom c k) second from)
