-- Domains with one value for a variable.
use Rattle.std.proofs.Common.{◌≡◌, ℕ, ◌+◌, ◌%◌, ◌^◌, ◌<◌, true, ◌&&◌, ◌==◌, ◌↔◌, List, [], ◌∷◌, length, set, get_or, slice_index, inl, inr, sym, subst, arith}
use Rattle.std.proofs.lemmas.Bool.{cases_lt}
use Rattle.std.proofs.lemmas.List.{get_or-set_same, get_or-set_other}
use Rattle.dom_set.specs.Elements.{is_in, is_within}
use Rattle.fd_narrow.specs.Narrowing.{IsInside, Narrows, domain_in}
use Rattle.fd_prob.specs.declared.problem.Assignment.{Assignment}
use Rattle.fd_prob.specs.declared.problem.Case.{Case}
use Rattle.fd_prob.specs.declared.slot.Slot.{Slot}
use Rattle.fd_prob.specs.Relations.{value_of}
use Rattle.rv_isa.specs.Numbers.{op_numbered}
use Rattle.fd_prob.specs.Slots.{slot_number}
use Rattle.fd_prob.specs.declared.relation.Rel.{Rel}
use Rattle.rv_isa.specs.declared.operation.Op.{Op}
use Rattle.std.proofs.lemmas.Bool.Decides.{nat_tests}
use Rattle.case_search.specs.Search.{IsCut}
use Rattle.fd_prob.proofs.Places.{place_below}
use Rattle.case_search.proofs.Putting.{put_in, put_out, value_in}

module _ (c : Case) (doms : List (List ℕ)) (s : Slot) (v : ℕ) (d : List ℕ) (cut : List (List ℕ)) (long : length doms ≡ 14) (word : v < 2 ^ 32) (only : (w : ℕ) → (is_in d w ≡ true) ↔ (w ≡ v)) (element : is_in (domain_in doms s) v ≡ true) where
  pub cut_is : Narrows (op_numbered c.op) c.rels (set doms (slot_number s) d) cut → IsCut c doms s v cut
  cut_is narrows =
      let value : (x : Assignment) → IsInside cut x → value_of x s ≡ v = λ x inside. (only (value_of x s)).0 (value_in doms s d long x (narrows.within x inside)) in
      record {
        word = word;
        within = λ x inside. put_out doms s d long x (narrows.within x inside) (subst (λ (w : ℕ). is_in (domain_in doms s) w ≡ true) (sym (value x inside)) element);
        value = value;
        keeps = λ x inside is holding. narrows.keeps x (put_in doms s d long x inside ((only (value_of x s)).1 is)) holding;
      }

pub narrows_as : (op : Op) (rels : List Rel) (old new : List (List ℕ)) (c : Case) (before : List (List ℕ)) → op ≡ op_numbered c.op → rels ≡ c.rels → old ≡ before → Narrows op rels old new → Narrows (op_numbered c.op) c.rels before new
narrows_as op rels old new c before op_is rels_is old_is narrows =
    let of_op : Narrows (op_numbered c.op) rels old new = subst (λ (o : Op). Narrows o rels old new) op_is narrows in
    let of_rels : Narrows (op_numbered c.op) c.rels old new = subst (λ (rs : List Rel). Narrows (op_numbered c.op) rs old new) rels_is of_op in
    subst (λ (ds : List (List ℕ)). Narrows (op_numbered c.op) c.rels ds new) old_is of_rels

-- the set of one number
pub only_is : (v w : ℕ) → (w % 1 == 0 && is_within ((v, v) ∷ []) w) ≡ true → w ≡ v
only_is v w h = grind (arith, nat_tests)

pub only_has : (v : ℕ) → (v % 1 == 0 && is_within ((v, v) ∷ []) v) ≡ true
only_has v = grind (arith, nat_tests)

-- one more value is put in its place
pub next_inside : (doms : List (List ℕ)) (values : List ℕ) (n : ℕ) (s : Slot) (v : ℕ) → length values ≡ 14 → slot_number s ≡ n → ((t : Slot) → slot_number t < n → is_in (domain_in doms t) (slice_index values (slot_number t)) ≡ true) → is_in (domain_in doms s) v ≡ true → (t : Slot) → slot_number t < n + 1 → is_in (domain_in doms t) (slice_index (set values n v) (slot_number t)) ≡ true
next_inside doms values n s v long place before member t below = elim (cases_lt (slot_number t) n) [
  | inl less ↦
      let kept : slice_index (set values n v) (slot_number t) ≡ slice_index values (slot_number t) = get_or-set_other values n (slot_number t) v 0 (λ e. omega (arith, e, less)) in
      subst (λ (u : ℕ). is_in (domain_in doms t) u ≡ true) (sym kept) (before t less)
  | inr from ↦
      let e : slot_number s ≡ slot_number t = omega (arith, below, from, place) in
      let put : slice_index (set values n v) (slot_number s) ≡ v = subst (λ (m : ℕ). slice_index (set values n v) m ≡ v) (sym place) (get_or-set_same values n v 0 (omega (arith, long, place, place_below s))) in
      let P : ℕ → Type 0 = λ m. is_in (get_or doms m []) (slice_index (set values n v) m) ≡ true in
      subst P e (subst (λ (u : ℕ). is_in (domain_in doms s) u ≡ true) (sym put) member)
]
