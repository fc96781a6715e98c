-- The witnesses of answered fetches.
use Rattle.std.proofs.Common.{◌≡◌, ℕ, ◌^◌, ◌<◌, ◌&&◌, ◌||◌, ◌==◌, Bool, true, false, eqb, List, [], ◌∷◌, map, slice_index, refl, sym, ap, ◌∙◌, subst, inl, inr, arith}
use Rattle.std.proofs.Math.Path.{fun_ext}
use Rattle.std.proofs.lemmas.Bool.{and_from, and_parts, eq-eqb, eqb-true}
use Rattle.dom_set.specs.Elements.{elements_of, is_in}
use Rattle.dom_set.proofs.Sets.{is_in-elements}
use Rattle.sv_walk.specs.Translation.{from_pointer, from_root, second_end, translated}
use Rattle.fd_prob.specs.declared.problem.Assignment.{Assignment}
use Rattle.fd_prob.specs.declared.problem.Case.{Case as SolverCase}
use Rattle.fd_prob.specs.declared.problem.Problem.{Problem}
use Rattle.fd_prob.specs.declared.slot.Slot.{Slot}
use Rattle.fd_prob.specs.declared.slot.Slot.TheVariants as slots
use Rattle.fd_prob.specs.declared.slot.TheConstants.{SLOTS}
use Rattle.fd_prob.specs.Fitting.{domain_of, fits, fits_case, is_within}
use Rattle.fd_prob.specs.Order.{IsAssignment, pivot_of, rank}
use Rattle.fd_prob.specs.Relations.{value_of}
use Rattle.fd_prob.specs.Slots.{slot_number}
use Rattle.fd_prob.proofs.Fitted.{all_within, each_within}
use Rattle.fd_solve.specs.Answers.{IsLeast}
use Rattle.leaf_link.specs.Values.{Values}
use Rattle.leaf_link.specs.Cases.{Case, Fits}
use Rattle.leaf_link.specs.Answers.{IsProblemOf, assignment_of, values_in}
use Rattle.leaf_link.specs.FetchRows.{entry_values, fetch_cases}
use Rattle.leaf_link.specs.FaultRows.{fault_cases}
use Rattle.leaf_link.specs.Firsts.{with_cases}
use Rattle.leaf_link.specs.FetchAnswers.{fetch_draw, fetch_first_at, fetch_space, is_fetched_slot}
use Rattle.leaf_link.specs.WalkWitnesses.{fetch_page_rows, fetch_turn, invalid_page, page, page_fault}
use Rattle.leaf_link.specs.BiasWitness.{no_draws}
use Rattle.leaf_link.specs.FetchWitness.{HaveAnsweredFetches, IsAnsweredFetch}
use Rattle.leaf_link.proofs.Both.{each_slot}
use Rattle.leaf_link.proofs.Answering.{value_back, words_all}
use Rattle.leaf_link.proofs.Turning.{firsts_hold_nothing}
use Rattle.leaf_link.proofs.FetchAnswering.{fetch_firsts_exist}
use Rattle.leaf_link.proofs.Possible.{fits_by}
use Rattle.leaf_link.proofs.BiasPossible.{one_in, or_no_more, word_of_slot}
use Rattle.leaf_link.proofs.WalkPossible.{fault_answers, fetches_are_rows}

-- A PROBLEM THAT ONE ASSIGNMENT FITS
abbrev one_case : Values → SolverCase
one_case k = record { op = k slots.Op; doms = map (λ s. elements_of (λ v. eqb v (k s))) SLOTS; rels = [] }

abbrev one_problem : Values → Problem
one_problem k = record { cases = one_case k ∷ []; pivots = 0 ∷ 0 ∷ 0 ∷ 0 ∷ 0 ∷ 0 ∷ 0 ∷ 0 ∷ 0 ∷ 0 ∷ 0 ∷ 0 ∷ 0 ∷ 0 ∷ []; pairs = fetch_space fetch_turn; fetch = true }

one_dom : (k : Values) (s : Slot) → domain_of (one_case k) s ≡ elements_of (λ v. eqb v (k s))
unfolding domain_of
one_dom k slots.Op = refl
one_dom k _ = refl

in_one_dom : (k : Values) (x : Assignment) (s : Slot) → IsAssignment x → is_in (domain_of (one_case k) s) (value_of x s) ≡ eqb (value_of x s) (k s)
in_one_dom k x s a = ap (λ (xs : List ℕ). is_in xs (value_of x s)) (one_dom k s) ∙ is_in-elements (λ v. eqb v (k s)) (value_of x s) (word_of_slot x s a)

one_less : (k : Values) (x : Assignment) → IsAssignment x → fits (one_problem k) x ≡ true → values_in x ≡ k
unfolding fits_case
one_less k x a h =
    let f = and_parts ((one_case k).op == value_of x slots.Op && is_within (one_case k) x) true (or_no_more (fits_case x (one_case k)) h) in
    let w = and_parts ((one_case k).op == value_of x slots.Op) (is_within (one_case k) x) f.0 in
    fun_ext (λ s. eqb-true (value_of x s) (k s) (sym (in_one_dom k x s a) ∙ each_within (one_case k) x w.1 s))

one_more : (k : Values) (x : Assignment) → IsAssignment x → ((s : Slot) → value_of x s ≡ k s) → fits (one_problem k) x ≡ true
unfolding fits_case
one_more k x a is =
    ap (λ (b : Bool). b || false)
    (and_from _ _ (and_from _ _ (eq-eqb (k slots.Op) (value_of x slots.Op) (sym (is slots.Op))) (all_within (one_case k) x (λ s. in_one_dom k x s a ∙ eq-eqb (value_of x s) (k s) (is s)))) refl)

-- what fits cases that just these values fit
one_is : (k : Values) (cs : List Case) → ((v : Values) → Fits cs v → (s : Slot) → v s ≡ k s) → Fits cs k → IsProblemOf (one_problem k) cs
one_is k cs only fit = record { same = λ x a. (λ h. subst (λ (z : Values). Fits cs z) (sym (one_less k x a h)) fit, λ f. one_more k x a (only (values_in x) f)) }

-- AN ANSWERED FETCH
abbrev whole_problem : Values → Problem
whole_problem k = with_cases (fetch_first_at fetch_turn ∷ []) (one_problem k)

draws_are : (k : Values) (s : Slot) → is_fetched_slot s ≡ true → slice_index (whole_problem k).pivots (slot_number s) ≡ fetch_draw no_draws s
draws_are k slots.Op h = refl
draws_are k _ h = refl

module _ (k : Values) (cs : List Case) (small : (s : Slot) → k s < 2 ^ 32) (only : (v : Values) → Fits cs v → (s : Slot) → v s ≡ k s) (fit : Fits cs k) where
  has_cases : IsProblemOf (whole_problem k) cs
  has_cases = (firsts_hold_nothing (fetch_first_at fetch_turn ∷ []) (one_problem k) cs (fetch_firsts_exist fetch_turn (one_problem k)).1).0 (one_is k cs only fit)

  back : values_in (assignment_of k) ≡ k
  back = fun_ext (value_back k)

  least : IsLeast (whole_problem k) (assignment_of k)
  least =
      let a : IsAssignment (assignment_of k) = words_all k small in
      record {
        words = a;
        fitting = (has_cases.same (assignment_of k) a).1 (subst (λ (z : Values). Fits cs z) (sym back) fit);
        least = λ y b h before.
            let same : value_of y before.0 ≡ value_of (assignment_of k) before.0 = only (values_in y) ((has_cases.same y b).0 h) before.0 ∙ sym (value_back k before.0) in
            let near = before.2 in
            let ranks = ap (λ (v : ℕ). rank (pivot_of (whole_problem k) (value_of y slots.Op) before.0) v) same in absurd (omega (arith, near, ranks));
      }

  answered : IsAnsweredFetch cs
  answered = record {
    problem = whole_problem k;
    assignment = assignment_of k;
    is_fetch = record { fetch = refl; pairs = refl; pivots = draws_are k; first = (fetch_firsts_exist fetch_turn (one_problem k)).0 };
    has_cases = has_cases;
    answered = (omega arith, least);
  }

-- OF A `do` LEAF
fetch_only : (v : Values) → Fits (fetch_cases fetch_turn fetch_page_rows) v → (s : Slot) → v s ≡ entry_values 0 page s
fetch_only v f = elim f [
  | inl c ↦
      let held = and_parts (eqb (v slots.FirstPte) 0) (eqb (v slots.SecondPte) page) (and_parts _ _ c.holds).0 in
      each_slot (λ s. v s ≡ entry_values 0 page s) (record {
        op_slot = eqb-true _ 0 (c.each slots.Op);
        rs1_slot = eqb-true _ 0 (c.each slots.Rs1);
        rs2_slot = eqb-true _ 0 (c.each slots.Rs2);
        imm_slot = eqb-true _ 0 (c.each slots.Imm);
        rd_slot = eqb-true _ 0 (c.each slots.Rd);
        csr_slot = eqb-true _ 0 (c.each slots.Csr);
        ea_slot = eqb-true _ 0 (c.each slots.Ea);
        a_slot = eqb-true _ 0 (c.each slots.A);
        b_slot = eqb-true _ 0 (c.each slots.B);
        first_slot = eqb-true (v slots.FirstPte) 0 held.0;
        second_slot = eqb-true (v slots.SecondPte) page held.1;
        data_slot = eqb-true _ 0 (c.each slots.DataWord);
        old_slot = eqb-true _ 0 (c.each slots.OldCsr);
        vector_slot = eqb-true _ 0 (c.each slots.Vector);
      })
  | inr none ↦ absurd none
]

fetch_fits : Fits (fetch_cases fetch_turn fetch_page_rows) (entry_values 0 page)
unfolding translated from_root from_pointer second_end
fetch_fits = inl (fits_by _ _ refl refl refl)

-- OF A `fault` LEAF
fault_only : (v : Values) → Fits (fault_cases fetch_turn page_fault fetch_page_rows) v → (s : Slot) → v s ≡ fault_answers s
fault_only v f = elim f [
  | inl c ↦
      let held = and_parts (eqb (v slots.FirstPte) 0) (eqb (v slots.SecondPte) invalid_page) (and_parts _ _ c.holds).0 in
      each_slot (λ s. v s ≡ fault_answers s) (record {
        op_slot = eqb-true _ 0 (c.each slots.Op);
        rs1_slot = eqb-true _ 0 (c.each slots.Rs1);
        rs2_slot = eqb-true _ 0 (c.each slots.Rs2);
        imm_slot = eqb-true _ 0 (c.each slots.Imm);
        rd_slot = eqb-true _ 0 (c.each slots.Rd);
        csr_slot = eqb-true _ 0 (c.each slots.Csr);
        ea_slot = eqb-true _ 0 (c.each slots.Ea);
        a_slot = eqb-true _ 0 (c.each slots.A);
        b_slot = eqb-true _ 0 (c.each slots.B);
        first_slot = eqb-true (v slots.FirstPte) 0 held.0;
        second_slot = eqb-true (v slots.SecondPte) invalid_page held.1;
        data_slot = eqb-true _ 0 (c.each slots.DataWord);
        old_slot = eqb-true _ 0 (c.each slots.OldCsr);
        vector_slot = eqb-true (v slots.Vector) 0x8000_0200 (one_in 0x8000_0200 (v slots.Vector) (and_parts _ _ (c.each slots.Vector)).1);
      })
  | inr none ↦ absurd none
]

fault_fits : Fits (fault_cases fetch_turn page_fault fetch_page_rows) fault_answers
unfolding translated from_root from_pointer second_end
fault_fits = inl (fits_by _ _ refl refl refl)

fetch_small : (s : Slot) → entry_values 0 page s < 2 ^ 32
fetch_small slots.SecondPte = omega arith
fetch_small slots.FirstPte = omega arith
fetch_small _ = omega arith

fault_small : (s : Slot) → fault_answers s < 2 ^ 32
fault_small slots.SecondPte = omega arith
fault_small slots.Vector = omega arith
fault_small _ = omega arith

pub have_answered_fetches : HaveAnsweredFetches
have_answered_fetches = record {
  rows = fetches_are_rows;
  fetch = answered (entry_values 0 page) (fetch_cases fetch_turn fetch_page_rows) fetch_small fetch_only fetch_fits;
  fault = answered fault_answers (fault_cases fetch_turn page_fault fetch_page_rows) fault_small fault_only fault_fits;
}
