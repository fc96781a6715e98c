-- Lower bounds of what is of a case.
use Rattle.std.proofs.Common.{◌≡◌, ℕ, ◌+◌, ◌^◌, ◌<◌, ◌≤◌, true, List, length, set, slice_index, All, Some, inl, inr, sym, subst, arith}
use Rattle.std.specs.List.Sorted.{IsStrictlyIncreasing}
use Rattle.std.proofs.lemmas.Bool.{cases_lt}
use Rattle.std.proofs.lemmas.List.{get_or-set_same, get_or-set_other}
use Rattle.dom_set.specs.Elements.{first_cyclic, is_in}
use Rattle.fd_prob.specs.declared.problem.Assignment.{Assignment}
use Rattle.fd_prob.specs.declared.problem.Case.{Case}
use Rattle.fd_prob.specs.declared.slot.Slot.{Slot}
use Rattle.fd_prob.specs.Fitting.{domain_of}
use Rattle.fd_prob.specs.Order.{rank}
use Rattle.fd_prob.specs.Slots.{slot_number}
use Rattle.case_search.proofs.Orders.{Nearer, rank_same}
use Rattle.case_search.proofs.Ranks.{cyclic_least, rising}
use Rattle.case_search.specs.Search.{Before, IsBound, IsMadeOf}

-- what has a bound behind the best one does not come before the best one
pub not_before : (ps : List ℕ) (best b x : Assignment) → Before ps best b → IsBound ps b x → Before ps x best → ⊥
not_before ps best b x above bound before = elim (cases_lt (slot_number before.0) (slot_number above.0)) [
  | inl less ↦
      let e = rank_same ps best b before.0 (above.1 before.0 less) in
      omega (arith, e, bound before.0, before.2)
  | inr from ↦ elim (cases_lt (slot_number above.0) (slot_number before.0)) [
    | inl more ↦
        let e = rank_same ps x best above.0 (before.1 above.0 more) in
        omega (arith, e, bound above.0, above.2)
    | inr to ↦
        let e : slot_number before.0 ≡ slot_number above.0 = omega (arith, from, to) in
        let near : Nearer ps x best (slot_number above.0) = subst (Nearer ps x best) e before.2 in
        omega (arith, near, bound above.0, above.2)
  ]
]

-- at a place no value of what is of the case is nearer above the pivot
abbrev pub IsNearest : List ℕ → Case → ℕ → ℕ → Type 0
IsNearest ps c n v = (x : Assignment) → IsMadeOf c x → rank (slice_index ps n) v ≤ rank (slice_index ps n) (slice_index x.values n)

pub nearest : (ps : List ℕ) (c : Case) (n : ℕ) (s : Slot) (d : List ℕ) (v : ℕ) → slot_number s ≡ n → d ≡ domain_of c s → IsStrictlyIncreasing d → All (λ w. w < 2 ^ 32) d → slice_index ps n < 2 ^ 32 → first_cyclic d (slice_index ps n) ≡ Some v → IsNearest ps c n v
nearest ps c n s d v place d_is up words word first x made =
    let own : is_in d (slice_index x.values (slot_number s)) ≡ true = subst (λ (xs : List ℕ). is_in xs (slice_index x.values (slot_number s)) ≡ true) (sym d_is) (made.1.domains s) in
    (cyclic_least d (slice_index ps n) v (rising d up) words word first).1 (slice_index x.values n) (subst (λ (m : ℕ). is_in d (slice_index x.values m) ≡ true) place own)

-- one more value is put in its place
pub next_nearest : (ps : List ℕ) (c : Case) (values : List ℕ) (n v : ℕ) → n < length values → ((k : ℕ) → k < n → IsNearest ps c k (slice_index values k)) → IsNearest ps c n v → (k : ℕ) → k < n + 1 → IsNearest ps c k (slice_index (set values n v) k)
next_nearest ps c values n v within so_far here k below = elim (cases_lt k n) [
  | inl less ↦ subst (IsNearest ps c k) (sym (get_or-set_other values n k v 0 (λ e. omega (arith, e, less)))) (so_far k less)
  | inr from ↦
      let e : n ≡ k = omega (arith, from, below) in
      subst (λ (m : ℕ). IsNearest ps c m (slice_index (set values n v) m)) e (subst (IsNearest ps c n) (sym (get_or-set_same values n v 0 within)) here)
]
