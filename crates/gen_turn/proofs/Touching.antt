-- The touches of a test's records are its footprints.
use Rattle.std.proofs.Common.{◌≡◌, ℕ, zero, suc, ◌+◌, ◌<◌, ◌≤◌, ◌||◌, Bool, true, false, cond, List, [], ◌∷◌, map, filter, ⊎_elim, ◌⊎◌, inl, inr, refl, sym, ap, ◌∙◌, subst, arith}
use Rattle.std.specs.Prelude.{slice_index_or}
use Rattle.std.specs.List.{list_any}
use Rattle.std.proofs.lemmas.Bool.{and_parts, and_from, eq-eqb, eqb-true, cases_lt, leb-true, ltb-true}
use Rattle.std.proofs.lemmas.List.Folds.{list_any-append}
use Rattle.rv_script.specs.declared.access.Access.{Access}
use Rattle.rv_script.specs.declared.access.Role.{Role}
use Rattle.rv_script.specs.Bytes.{covers}
use Rattle.rv_script.specs.Lists.{HasItem}
use Rattle.foot_map.specs.declared.touch.Touch.{Touch}
use Rattle.foot_map.proofs.Orders.{same_role_is, same_role_refl}
use Rattle.foot_map.specs.Races.{IsFootprint}
use Rattle.foot_map.specs.Touches.{is_triple, same_role}
use Rattle.rv_hart.specs.declared.record.Record.{Record}
use Rattle.tpl_admit.specs.Races.{footprint_of, footprints_of}
use Rattle.gen_turn.specs.Touches.{all_touches_of, bytes_from, touches_from, touches_of}

or_parts : (a b : Bool) → (a || b) ≡ true → (a ≡ true) ⊎ (b ≡ true)
or_parts true b h = inl refl
or_parts false b h = inr h

or_left : (a b : Bool) → a ≡ true → (a || b) ≡ true
or_left true b h = refl
or_left false b h = absurd (cc h)

or_right : (a b : Bool) → b ≡ true → (a || b) ≡ true
or_right true b h = refl
or_right false b h = h

-- ---- one access

module _ (k h b : ℕ) (r : Role) where
  abbrev hit : Touch → Bool
  hit t = is_triple t b h r

  module _ (x : Access) where
    abbrev touch : ℕ → Touch
    touch c = record { byte = c; hart = k; role = x.role }

    forth : (bs : List ℕ) → list_any hit (map touch (filter (covers x) bs)) ≡ true → (k ≡ h) × (x.role ≡ r) × (covers x b ≡ true)
    forth [] e = absurd (cc e)
    forth (c ∷ bs) e = elim (covers x c) as (λ z. covers x c ≡ z → list_any hit (map touch (cond z (c ∷ filter (covers x) bs) (filter (covers x) bs))) ≡ true → (k ≡ h) × (x.role ≡ r) × (covers x b ≡ true)) [
      | true ↦ λ y s. ⊎_elim
          (λ here.
          let parts = and_parts _ _ here in
          let others = and_parts _ _ parts.1 in
          (eqb-true k h others.0, same_role_is x.role r others.1, subst (λ (n : ℕ). covers x n ≡ true) (eqb-true c b parts.0) y))
          (forth bs) (or_parts _ _ s)
      | false ↦ λ n s. forth bs s
    ] refl e

    back : (n first : ℕ) → k ≡ h → x.role ≡ r → covers x b ≡ true → first ≤ b → b < first + n → list_any hit (map touch (filter (covers x) (bytes_from first n))) ≡ true
    back zero first e f g low high = absurd (omega (arith, low, high))
    back (suc n) first e f g low high =
        let is_role : same_role x.role r ≡ true = subst (λ (s : Role). same_role x.role s ≡ true) f (same_role_refl x.role) in
        let later : first < b → list_any hit (map touch (filter (covers x) (bytes_from (first + 1) n))) ≡ true = λ less. back n (first + 1) e f g (omega (arith, less)) (omega (arith, high)) in
        let on : (z : Bool) → covers x first ≡ z → list_any hit (map touch (cond z (first ∷ filter (covers x) (bytes_from (first + 1) n)) (filter (covers x) (bytes_from (first + 1) n)))) ≡ true =
        λ z. elim z as (λ z. covers x first ≡ z → list_any hit (map touch (cond z (first ∷ filter (covers x) (bytes_from (first + 1) n)) (filter (covers x) (bytes_from (first + 1) n)))) ≡ true) [
          | true ↦ λ y. elim (cases_lt first b) [
            | inl less ↦ or_right _ _ (later less)
            | inr from ↦
                let same : first ≡ b = omega (arith, from, low) in
                or_left _ _ (and_from _ _ (eq-eqb first b same) (and_from _ _ (eq-eqb k h e) is_role))
          ]
          | false ↦ λ no. elim (cases_lt first b) [
            | inl less ↦ later less
            | inr from ↦
                let same : first ≡ b = omega (arith, from, low) in
                absurd (cc (sym no ∙ ap (covers x) same ∙ g))
          ]
        ] in
        on (covers x first) refl

    one_back : k ≡ h → x.role ≡ r → covers x b ≡ true → list_any hit (touches_of k x) ≡ true
    one_back e f g =
        let parts = and_parts _ _ (and_parts _ _ g).1 in
        back x.size x.addr e f g (leb-true _ _ parts.0) (ltb-true _ _ parts.1)

  -- ---- the accesses of a hart

  all_forth : (xs : List Access) → list_any hit (all_touches_of k xs) ≡ true → (k ≡ h) × ((x : Access) × HasItem xs x × (x.role ≡ r) × (covers x b ≡ true))
  all_forth [] e = absurd (cc e)
  all_forth (x ∷ xs) e = ⊎_elim
      (λ here. let is = forth x (bytes_from x.addr x.size) here in (is.0, (x, inl refl, is.1, is.2)))
      (λ later. let is = all_forth xs later in (is.0, (is.1.0, inr is.1.1, is.1.2, is.1.3)))
      (or_parts _ _ (sym (list_any-append hit (touches_of k x) (all_touches_of k xs)) ∙ e))

  all_back : (xs : List Access) (x : Access) → k ≡ h → HasItem xs x → x.role ≡ r → covers x b ≡ true → list_any hit (all_touches_of k xs) ≡ true
  all_back [] x e has_x f g = absurd has_x
  all_back (y ∷ xs) x e (inl here) f g =
      list_any-append hit (touches_of k y) (all_touches_of k xs)
      ∙ or_left _ _ (one_back y e (ap (λ (z : Access). z.role) here ∙ f) (ap (λ (z : Access). covers z b) here ∙ g))
  all_back (y ∷ xs) x e (inr later) f g =
      list_any-append hit (touches_of k y) (all_touches_of k xs) ∙ or_right _ _ (all_back xs x e later f g)

-- ---- the records of harts

module _ (h b : ℕ) (r : Role) where
  abbrev IsThere : List (List Record) → ℕ → Type 0
  IsThere traces i = (x : Access) × HasItem (footprint_of (slice_index_or traces i [])) x × (x.role ≡ r) × (covers x b ≡ true)

  from_forth : (traces : List (List Record)) (k : ℕ) → list_any (hit k h b r) (touches_from k traces) ≡ true → (i : ℕ) × (h ≡ k + i) × IsThere traces i
  from_forth [] k e = absurd (cc e)
  from_forth (records ∷ traces) k e = ⊎_elim
      (λ here. let is = all_forth k h b r (footprint_of records) here in (0, omega (arith, is.0), is.1))
      (λ later. let is = from_forth traces (k + 1) later in (suc is.0, omega (arith, is.1), is.2))
      (or_parts _ _ (sym (list_any-append (hit k h b r) (all_touches_of k (footprint_of records)) (touches_from (k + 1) traces)) ∙ e))

  from_back : (traces : List (List Record)) (k i : ℕ) → h ≡ k + i → IsThere traces i → list_any (hit k h b r) (touches_from k traces) ≡ true
  from_back [] k i e is = absurd is.1
  from_back (records ∷ traces) k zero e is =
      list_any-append (hit k h b r) (all_touches_of k (footprint_of records)) (touches_from (k + 1) traces)
      ∙ or_left _ _ (all_back k h b r (footprint_of records) is.0 (omega (arith, e)) is.1 is.2 is.3)
  from_back (records ∷ traces) k (suc i) e is =
      list_any-append (hit k h b r) (all_touches_of k (footprint_of records)) (touches_from (k + 1) traces)
      ∙ or_right _ _ (from_back traces (k + 1) i (omega (arith, e)) is)

pub touches_are_footprints : (traces : List (List Record)) → IsFootprint (touches_from 0 traces) (footprints_of (λ k. slice_index_or traces k []))
touches_are_footprints traces b h r = (
  λ e. let is = from_forth h b r traces 0 e in subst (IsThere h b r traces) (sym (omega (arith, is.1))) is.2,
  λ is. from_back h b r traces 0 h (omega arith) is,
)
