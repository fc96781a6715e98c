-- Domains of which one is replaced.
use Rattle.std.proofs.Common.{◌≡◌, ◌≢◌, ℕ, ◌^◌, ◌<◌, Bool, not, List, [], All, IsTrue, length, set, get_or, ◌⊎◌, inl, inr, ⊎_elim, refl, sym, ap, ◌∙◌, subst, arith}
use Rattle.std.specs.List.{filter}
use Rattle.std.specs.Prelude.{slice_index, slice_set}
use Rattle.std.proofs.lemmas.Bool.{cases_lt}
use Rattle.std.proofs.lemmas.List.{get_or-set_same, get_or-set_other}
use Rattle.dom_set.specs.Elements.{is_in}
use Rattle.fd_prob.specs.declared.problem.Assignment.{Assignment}
use Rattle.fd_prob.specs.declared.slot.Slot.{Slot}
use Rattle.fd_prob.specs.declared.slot.Slot.TheVariants as slots
use Rattle.fd_prob.specs.Relations.{value_of}
use Rattle.fd_prob.specs.Slots.{slot_number}
use Rattle.fd_narrow.specs.Narrowing.{IsInside, domain_in}
use Rattle.fd_narrow.specs.Internal.Steps.{IsValueIn, IsValueOutside, Leaves}
use Rattle.set_sums.proofs.Members.{element, is_in-filter, joined, right}

slot_below : (s : Slot) → slot_number s < 14
slot_below slots.Op = omega arith
slot_below slots.Rs1 = omega arith
slot_below slots.Rs2 = omega arith
slot_below slots.Imm = omega arith
slot_below slots.Rd = omega arith
slot_below slots.Csr = omega arith
slot_below slots.Ea = omega arith
slot_below slots.A = omega arith
slot_below slots.B = omega arith
slot_below slots.FirstPte = omega arith
slot_below slots.SecondPte = omega arith
slot_below slots.DataWord = omega arith
slot_below slots.OldCsr = omega arith
slot_below slots.Vector = omega arith

equal_or_not : (i n : ℕ) → (i ≡ n) ⊎ (i ≢ n)
equal_or_not i n = elim (cases_lt i n) [
  | inl below ↦ inr (λ e. omega (arith, below, e))
  | inr from ↦ elim (cases_lt n i) [
    | inl above ↦ inr (λ e. omega (arith, above, e))
    | inr to ↦ inl (omega (arith, from, to))
  ]
]

module _ (doms : List (List ℕ)) (all : length doms ≡ 14) (s : Slot) (new : List ℕ) where
  here : (i : ℕ) → i ≡ slot_number s → get_or (set doms (slot_number s) new) i [] ≡ new
  here i e = subst (λ (j : ℕ). get_or (set doms (slot_number s) new) j [] ≡ new) (sym e) (get_or-set_same doms (slot_number s) new [] (omega (arith, all, slot_below s)))

  there : (i : ℕ) → i ≢ slot_number s → get_or (set doms (slot_number s) new) i [] ≡ get_or doms i []
  there i ne = get_or-set_other doms (slot_number s) i new [] ne

  pub inside_again : (x : Assignment) → IsInside doms x → IsTrue (is_in new (value_of x s)) → IsInside (slice_set doms (slot_number s) new) x
  inside_again x inside is t = ⊎_elim
      (λ e. subst (λ (d : List ℕ). IsTrue (is_in d (value_of x t))) (sym (here (slot_number t) e)) (subst (λ (i : ℕ). IsTrue (is_in new (slice_index x.values i))) (sym e) is))
      (λ ne. subst (λ (d : List ℕ). IsTrue (is_in d (value_of x t))) (sym (there (slot_number t) ne)) (inside t))
      (equal_or_not (slot_number t) (slot_number s))

  pub inside_before : ((v : ℕ) → IsTrue (is_in new v) → IsTrue (is_in (domain_in doms s) v)) → (x : Assignment) → IsInside (slice_set doms (slot_number s) new) x → IsInside doms x
  inside_before part x inside t = ⊎_elim
      (λ e. subst (λ (i : ℕ). IsTrue (is_in (get_or doms i []) (slice_index x.values i))) (sym e) (part (value_of x s) (subst (λ (d : List ℕ). IsTrue (is_in d (value_of x s))) (here (slot_number s) refl) (inside s))))
      (λ ne. subst (λ (d : List ℕ). IsTrue (is_in d (value_of x t))) (there (slot_number t) ne) (inside t))
      (equal_or_not (slot_number t) (slot_number s))

-- a word of a list of words
word_in : (xs : List ℕ) → All (λ v. v < 2 ^ 32) xs → (v : ℕ) → IsTrue (is_in xs v) → v < 2 ^ 32
word_in xs words v h = element (λ y. y < 2 ^ 32) xs v words h

pub cut_leaves : (doms : List (List ℕ)) (s : Slot) (other new : List ℕ) → length doms ≡ 14 → All (λ v. v < 2 ^ 32) (domain_in doms s) → new ≡ filter (is_in other) (domain_in doms s) → Leaves (IsValueIn s other) doms (slice_set doms (slot_number s) new)
cut_leaves doms s other new all words is = record {
  within = inside_before doms all s new (λ v h. right (is_in other v) (is_in (domain_in doms s) v) (subst (λ (b : Bool). IsTrue b) (ap (λ (d : List ℕ). is_in d v) is ∙ is_in-filter (is_in other) (domain_in doms s) v) h));
  keeps = λ x inside means. inside_again doms all s new x inside (subst (λ (b : Bool). IsTrue b) (sym (ap (λ (d : List ℕ). is_in d (value_of x s)) is ∙ is_in-filter (is_in other) (domain_in doms s) (value_of x s))) (joined (is_in other (value_of x s)) (is_in (domain_in doms s) (value_of x s)) (means (word_in (domain_in doms s) words (value_of x s) (inside s))) (inside s)));
}

pub take_leaves : (doms : List (List ℕ)) (s : Slot) (other new : List ℕ) → length doms ≡ 14 → All (λ v. v < 2 ^ 32) (domain_in doms s) → new ≡ filter (λ v. not (is_in other v)) (domain_in doms s) → Leaves (IsValueOutside s other) doms (slice_set doms (slot_number s) new)
take_leaves doms s other new all words is = record {
  within = inside_before doms all s new (λ v h. right (not (is_in other v)) (is_in (domain_in doms s) v) (subst (λ (b : Bool). IsTrue b) (ap (λ (d : List ℕ). is_in d v) is ∙ is_in-filter (λ w. not (is_in other w)) (domain_in doms s) v) h));
  keeps = λ x inside out. inside_again doms all s new x inside (subst (λ (b : Bool). IsTrue b) (sym (ap (λ (d : List ℕ). is_in d (value_of x s)) is ∙ is_in-filter (λ w. not (is_in other w)) (domain_in doms s) (value_of x s))) (joined (not (is_in other (value_of x s))) (is_in (domain_in doms s) (value_of x s)) (ap not (out (word_in (domain_in doms s) words (value_of x s) (inside s)))) (inside s)));
}

pub cut_step : (doms after : List (List ℕ)) (s : Slot) (domain other new : List ℕ) → length doms ≡ 14 → domain ≡ domain_in doms s → All (λ v. v < 2 ^ 32) domain → new ≡ filter (is_in other) domain → after ≡ slice_set doms (slot_number s) new → Leaves (IsValueIn s other) doms after
cut_step doms after s domain other new all here_is words is end =
    subst (λ (d : List (List ℕ)). Leaves (IsValueIn s other) doms d) (sym end)
    (cut_leaves doms s other new all (subst (λ (d : List ℕ). All (λ v. v < 2 ^ 32) d) here_is words) (is ∙ ap (filter (is_in other)) here_is))

pub take_step : (doms after : List (List ℕ)) (s : Slot) (domain other new : List ℕ) → length doms ≡ 14 → domain ≡ domain_in doms s → All (λ v. v < 2 ^ 32) domain → new ≡ filter (λ v. not (is_in other v)) domain → after ≡ slice_set doms (slot_number s) new → Leaves (IsValueOutside s other) doms after
take_step doms after s domain other new all here_is words is end =
    subst (λ (d : List (List ℕ)). Leaves (IsValueOutside s other) doms d) (sym end)
    (take_leaves doms s other new all (subst (λ (d : List ℕ). All (λ v. v < 2 ^ 32) d) here_is words) (is ∙ ap (filter (λ v. not (is_in other v))) here_is))
