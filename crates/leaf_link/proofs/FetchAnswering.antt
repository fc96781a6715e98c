-- The answers of the problems of fetches are the answers of the turn.
use Rattle.std.proofs.Common.{◌≡◌, ℕ, ◌+◌, ◌^◌, ◌<◌, if◌then◌else◌, Bool, true, false, List, [], map, Option, Some, None, refl, sym, ap, ◌∙◌, subst, inl, inr, arith}
use Rattle.std.proofs.lemmas.Bool.{and_parts, cases_Bool, ltb-true}
use Rattle.dom_set.specs.Elements.{is_in}
use Rattle.dom_set.proofs.Sets.{is_in-elements}
use Rattle.rv_script.specs.Lists.{HasItem}
use Rattle.rv_script.specs.Script.{Label.FetchRoot, Label.FetchSecond, Label.FromVector}
use Rattle.rv_script.specs.Folds.{Entry}
use Rattle.rv_script.specs.Logs.{entry_place}
use Rattle.fd_prob.specs.declared.problem.Case.{Case}
use Rattle.fd_prob.specs.declared.problem.Problem.{Problem}
use Rattle.fd_prob.specs.declared.relation.Rel.TheVariants.{Rows}
use Rattle.fd_prob.specs.declared.slot.Slot.{Slot}
use Rattle.fd_prob.specs.declared.slot.Slot.TheVariants as slots
use Rattle.fd_prob.specs.Fitting.{domain_of}
use Rattle.fd_prob.specs.Order.{domain_in, draw_of, picked, pivot_of, rank}
use Rattle.fd_prob.specs.Spaces.{access_space, allowed_cases, operation_space, saturated, space, sum_of}
use Rattle.leaf_link.specs.Turns.{Turn}
use Rattle.leaf_link.specs.Values.{Values, instr_in, new_places}
use Rattle.leaf_link.specs.Cases.{Fits}
use Rattle.leaf_link.specs.Answers.{ComesBeforeIn}
use Rattle.leaf_link.specs.Fetches.{IsFetchCandidate, fetch_places, fetch_values}
use Rattle.leaf_link.specs.FetchRows.{AreFetchRows, FetchRow, fetch_cases}
use Rattle.leaf_link.specs.Faults.{IsFaultCandidate, fault_values}
use Rattle.leaf_link.specs.FaultRows.{fault_cases}
use Rattle.leaf_link.specs.FetchAnswers.{FaultAnswersAreExact, FetchAnswersAreExact, FetchFirstsExist, FetchPrecedes, IsFetchFirst, IsFetchProblem, fault_key, fetch_domain, fetch_draw, fetch_first_at, fetch_first_of, fetch_key, fetch_list, fetch_pivot, fetch_space, is_fetched_slot}
use Rattle.leaf_link.proofs.Small.{new_small}
use Rattle.leaf_link.proofs.Answering.{answers_moved, answers_over, before_by}
use Rattle.leaf_link.proofs.Spacing.{domain_is}
use Rattle.leaf_link.proofs.FetchFits.{fetch_problems_are_exact}
use Rattle.leaf_link.proofs.FaultFits.{fault_problems_are_exact}

-- WHAT FITS IS WORDS
abbrev pub NewSmall : Turn → List Entry → Type 0
NewSmall t log = (e : Entry) → HasItem log e → t.known (entry_place e) ≡ None → e.value < 2 ^ 32

pub fetch_values_small : (t : Turn) (log : List Entry) → NewSmall t log → (s : Slot) → fetch_values t log s < 2 ^ 32
fetch_values_small t log new slots.FirstPte = new_small t.known log FetchRoot new
fetch_values_small t log new slots.SecondPte = new_small t.known log FetchSecond new
fetch_values_small t log new _ = omega arith

pub fault_values_small : (t : Turn) (log : List Entry) → NewSmall t log → (s : Slot) → fault_values t log s < 2 ^ 32
fault_values_small t log new slots.FirstPte = new_small t.known log FetchRoot new
fault_values_small t log new slots.SecondPte = new_small t.known log FetchSecond new
fault_values_small t log new slots.Vector = new_small t.known log FromVector new
fault_values_small t log new _ = omega arith

pub fetch_small : (t : Turn) (rows : List FetchRow) → AreFetchRows t rows → (x : Values) → Fits (fetch_cases t rows) x → (s : Slot) → x s < 2 ^ 32
fetch_small t rows are x f s =
    let law = fetch_problems_are_exact t rows are in
    let w = law.into x f in
    subst (λ (n : ℕ). n < 2 ^ 32) (sym (law.are_values x f s)) (fetch_values_small t w.log (λ e i n. ltb-true _ _ (and_parts _ _ (w.meets.may (instr_in x) e i n)).0) s)

pub fault_small : (t : Turn) (causes : ℕ → Bool) (rows : List FetchRow) → AreFetchRows t rows → (x : Values) → Fits (fault_cases t causes rows) x → (s : Slot) → x s < 2 ^ 32
fault_small t causes rows are x f s =
    let law = fault_problems_are_exact t causes rows are in
    let w = law.into x f in
    subst (λ (n : ℕ). n < 2 ^ 32) (sym (law.are_values x f s)) (fault_values_small t w.log (λ e i n. ltb-true _ _ (and_parts _ _ (w.meets.may (instr_in x) e i n)).0) s)

-- PIVOTS
first_domains : (t : Turn) (o : Option Case) (s : Slot) → is_fetched_slot s ≡ true → IsFetchFirst t o → domain_in o s ≡ fetch_list t s
first_domains t None s h f = absurd f
first_domains t (Some c) s h f = domain_is (domain_of c s) (fetch_domain t s) (f s h)

first_pivot : (t : Turn) (draws : List ℕ) (p : Problem) → IsFetchProblem t draws p → (s : Slot) → is_fetched_slot s ≡ true → picked (draw_of p s) (domain_in (fetch_first_of p) s) ≡ fetch_pivot t draws s
first_pivot t draws p is s h =
    ap (λ (d : ℕ). picked d (domain_in (fetch_first_of p) s)) (is.pivots s h) ∙ ap (λ (xs : List ℕ). picked (fetch_draw draws s) xs) (first_domains t (fetch_first_of p) s h is.first)

pivot_is : (t : Turn) (draws : List ℕ) (p : Problem) → IsFetchProblem t draws p → (s : Slot) → is_fetched_slot s ≡ true → pivot_of p 0 s ≡ fetch_pivot t draws s
unfolding pivot_of
pivot_is t draws p is slots.FirstPte h = first_pivot t draws p is slots.FirstPte h
pivot_is t draws p is slots.SecondPte h = first_pivot t draws p is slots.SecondPte h
pivot_is t draws p is slots.Vector h = first_pivot t draws p is slots.Vector h
pivot_is t draws p is _ h = absurd (cc)

-- ORDER
fetch_unused : (t : Turn) (log : List Entry) (s : Slot) → is_fetched_slot s ≡ false → fetch_values t log s ≡ 0
fetch_unused t log slots.FirstPte h = absurd (cc)
fetch_unused t log slots.SecondPte h = absurd (cc)
fetch_unused t log _ h = refl

fault_unused : (t : Turn) (log : List Entry) (s : Slot) → is_fetched_slot s ≡ false → fault_values t log s ≡ 0
fault_unused t log slots.FirstPte h = absurd (cc)
fault_unused t log slots.SecondPte h = absurd (cc)
fault_unused t log slots.Vector h = absurd (cc)
fault_unused t log _ h = refl

before_from : (t : Turn) (draws : List ℕ) (p : Problem) (x y : Values) → IsFetchProblem t draws p → x slots.Op ≡ 0 → ((s : Slot) → is_fetched_slot s ≡ false → x s ≡ y s)
    → FetchPrecedes t draws x y → ComesBeforeIn p x y
before_from t draws p x y is number unused b =
    let s : Slot = b.0 in
    before_by p x y s b.1 (elim (cases_Bool (is_fetched_slot s)) [
      | inl h ↦ subst (λ (n : ℕ). rank n (x s) < rank n (y s)) (sym (ap (λ (n : ℕ). pivot_of p n s) number ∙ pivot_is t draws p is s h)) b.2
      | inr h ↦ absurd (let same = ap (λ (v : ℕ). rank (fetch_pivot t draws s) v) (unused s h) in let near = b.2 in omega (arith, same, near))
    ])

space_is : (t : Turn) (draws : List ℕ) (p : Problem) → IsFetchProblem t draws p → space p ≡ fetch_space t
space_is t draws p is = ap (λ (b : Bool). if b then p.pairs else saturated (sum_of (map operation_space (allowed_cases p)) + access_space p)) is.fetch ∙ is.pairs

-- ANSWERS
pub fetch_answers_are_exact : FetchAnswersAreExact
fetch_answers_are_exact t rows draws p nodes answer are is cases a =
    answers_moved (space p) (fetch_space t) nodes (ComesBeforeIn p) (FetchPrecedes t draws) (IsFetchCandidate t) (fetch_key t) (fetch_places t) answer (space_is t draws p is)
    (λ one v two w b. before_from t draws p (fetch_key t one v) (fetch_key t two w) is refl (λ s h. fetch_unused t v.log s h ∙ sym (fetch_unused t w.log s h)) b)
    (answers_over p (fetch_cases t rows) nodes answer (IsFetchCandidate t) (fetch_key t) (fetch_places t) (fetch_problems_are_exact t rows are) (fetch_small t rows are) cases a)

pub fault_answers_are_exact : FaultAnswersAreExact
fault_answers_are_exact t causes rows draws p nodes answer are is cases a =
    answers_moved (space p) (fetch_space t) nodes (ComesBeforeIn p) (FetchPrecedes t draws) (IsFaultCandidate t causes) (fault_key t causes) (new_places t.fixed t.known) answer (space_is t draws p is)
    (λ one v two w b. before_from t draws p (fault_key t causes one v) (fault_key t causes two w) is refl (λ s h. fault_unused t v.log s h ∙ sym (fault_unused t w.log s h)) b)
    (answers_over p (fault_cases t causes rows) nodes answer (IsFaultCandidate t causes) (fault_key t causes) (new_places t.fixed t.known) (fault_problems_are_exact t causes rows are) (fault_small t causes rows are) cases a)

-- A FIRST CASE
own_domain : (t : Turn) (s : Slot) → domain_of (fetch_first_at t) s ≡ fetch_list t s
unfolding domain_of
own_domain t slots.Op = refl
own_domain t _ = refl

pub fetch_firsts_exist : FetchFirstsExist
fetch_firsts_exist t p = (
  λ s h. record {
    members = fetch_domain t s;
    is_set = own_domain t s;
    same = λ v less. ap (λ (xs : List ℕ). is_in xs v) (own_domain t s) ∙ is_in-elements (fetch_domain t s) v less;
  },
  λ c i. elim i [
    | inl q ↦ subst (λ (d : Case). HasItem d.rels (Rows [])) q (inl refl)
    | inr j ↦ absurd j
  ],
)
