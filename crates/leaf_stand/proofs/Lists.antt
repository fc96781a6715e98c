-- Lists of domains, one set after another.
use Rattle.std.proofs.Common.{◌≡◌, ℕ, zero, suc, ◌+◌, ◌<◌, ◌≤◌, List, [], ◌∷◌, ◌++◌, length, drop, get_or, sym, ap, ◌∙◌, subst, arith, append_assoc}
use Rattle.std.specs.Prelude.{slice_index_or}
use Rattle.std.proofs.Math.Seq.{drop-cons}
use Rattle.std.proofs.lemmas.List.{append-nil, drop_all}
use Rattle.fd_prob.specs.declared.slot.Slot.{Slot}
use Rattle.fd_prob.specs.declared.slot.TheConstants.{SLOTS}
use Rattle.fd_prob.specs.Slots.{slot_number}
use Rattle.fd_prob.proofs.Places.{place_below, placed}
use Rattle.fd_prob.specs.declared.relation.Quad.{Quad}
use Rattle.fd_prob.specs.declared.relation.Rel.{Rel}
use Rattle.fd_prob.specs.declared.relation.Rel.TheVariants.{Rows}
use Rattle.leaf_stand.specs.Sets.{AreEach}

nth_domain : (Is : Slot → List ℕ → Type 0) (ss : List Slot) (ds : List (List ℕ)) → AreEach Is ss ds → (n : ℕ) (d : Slot) → n < length ss → Is (get_or ss n d) (slice_index_or ds n [])
nth_domain Is [] ds h n d lt = absurd (omega arith)
nth_domain Is (s ∷ ss) [] h n d lt = absurd h
nth_domain Is (s ∷ ss) (set ∷ sets) h zero d lt = h.0
nth_domain Is (s ∷ ss) (set ∷ sets) h (suc n) d lt = nth_domain Is ss sets h.1 n d (omega arith)

-- each variable has its domain
pub each_domain : (Is : Slot → List ℕ → Type 0) (ds : List (List ℕ)) → AreEach Is SLOTS ds → (s : Slot) → Is s (slice_index_or ds (slot_number s) [])
each_domain Is ds h s = subst (λ (t : Slot). Is t (slice_index_or ds (slot_number s) [])) (placed s s) (nth_domain Is SLOTS ds h (slot_number s) s (place_below s))

-- one more set
pub add_domain : (Is : Slot → List ℕ → Type 0) (i : ℕ) (d : Slot) (ds : List (List ℕ)) (set : List ℕ) → i < 14 → Is (get_or SLOTS i d) set
    → ((rest : List (List ℕ)) → AreEach Is (drop i SLOTS) rest → AreEach Is SLOTS (ds ++ rest))
    → (rest : List (List ℕ)) → AreEach Is (drop (i + 1) SLOTS) rest → AreEach Is SLOTS ((ds ++ set ∷ []) ++ rest)
add_domain Is i d ds set lt is inv rest h =
    let e : i + 1 ≡ suc i = omega arith in
    let tail : AreEach Is (drop (suc i) SLOTS) rest = subst (λ (n : ℕ). AreEach Is (drop n SLOTS) rest) e h in
    let here : AreEach Is (drop i SLOTS) (set ∷ rest) = subst (λ (l : List Slot). AreEach Is l (set ∷ rest)) (sym (drop-cons SLOTS i d lt)) (is, tail) in
    subst (λ (l : List (List ℕ)). AreEach Is SLOTS l) (sym (append_assoc ds (set ∷ []) rest)) (inv (set ∷ rest) here)

-- all of them
pub all_domains : (Is : Slot → List ℕ → Type 0) (i : ℕ) (ds : List (List ℕ)) → 14 ≤ i
    → ((rest : List (List ℕ)) → AreEach Is (drop i SLOTS) rest → AreEach Is SLOTS (ds ++ rest)) → AreEach Is SLOTS ds
all_domains Is i ds le inv =
    let none : drop i SLOTS ≡ [] = drop_all i SLOTS le in
    subst (λ (l : List (List ℕ)). AreEach Is SLOTS l) (append-nil ds) (inv [] (subst (λ (l : List Slot). AreEach Is l []) (sym none) (record {})))

-- the relation of a first case
pub no_row : (rels old : List Rel) (rows : List Quad) → rels ≡ old ++ Rows rows ∷ [] → old ≡ [] → rows ≡ [] → rels ≡ Rows [] ∷ []
no_row rels old rows e n m = e ∙ ap (λ (l : List Rel). l ++ Rows rows ∷ []) n ∙ ap (λ (r : List Quad). Rows r ∷ []) m
