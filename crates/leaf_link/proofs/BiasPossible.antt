-- The witness of a kept and a dropped bias.
use Rattle.std.proofs.Common.{◌≡◌, ℕ, ◌^◌, ◌<◌, ◌≤◌, ◌==◌, ◌&&◌, ◌||◌, ◌⊎◌, Bool, true, false, eqb, List, [], ◌∷◌, ◌++◌, map, refl, sym, ap, ◌∙◌, subst, inl, inr, arith}
use Rattle.std.specs.Prelude.{All}
use Rattle.std.proofs.Math.Path.{fun_ext}
use Rattle.std.proofs.lemmas.Bool.{and_from, and_parts, eq-eqb, eqb-true}
use Rattle.std.proofs.lemmas.List.Elements.{All-cons, All-nil}
use Rattle.dom_set.specs.Elements.{elements_of, is_in}
use Rattle.dom_set.proofs.Sets.{is_in-elements}
use Rattle.rv_isa.specs.declared.operation.Op.{Op}
use Rattle.rv_isa.specs.declared.operation.Op.TheVariants.{Addi}
use Rattle.rv_isa.specs.declared.operation.TheConstants.{OPS}
use Rattle.rv_isa.specs.Reading.{decoded}
use Rattle.rv_script.specs.declared.place.Place.TheVariants.{Reg}
use Rattle.rv_script.specs.Lists.{HasItem}
use Rattle.sv_walk.specs.declared.entry.Kind.TheVariants.{Load as ForLoad, Store as ForStore}
use Rattle.sv_walk.specs.Translation.{translated}
use Rattle.rv_hart.specs.Machine.{at_address, fetched_at, immediate_row, instruction, script}
use Rattle.tpl_ast.specs.declared.template.Atom.{Atom}
use Rattle.tpl_ast.specs.Leaves.{IsPlain}
use Rattle.fd_prob.specs.declared.problem.Assignment.{Assignment}
use Rattle.fd_prob.specs.declared.problem.Case.{Case as SolverCase}
use Rattle.fd_prob.specs.declared.problem.Extra.{Extra}
use Rattle.fd_prob.specs.declared.problem.Problem.{Problem}
use Rattle.fd_prob.specs.declared.slot.Slot.{Slot}
use Rattle.fd_prob.specs.declared.slot.Slot.TheVariants as slots
use Rattle.fd_prob.specs.declared.slot.TheConstants.{SLOTS}
use Rattle.fd_prob.specs.Extras.{extended}
use Rattle.fd_prob.specs.Fitting.{IsCase, domain_of, fits, fits_case, is_within}
use Rattle.fd_prob.specs.Order.{IsAssignment, pivot_of, rank}
use Rattle.fd_prob.specs.Relations.{value_of}
use Rattle.rv_isa.specs.Numbers.{op_numbered, op_number}
use Rattle.fd_prob.specs.Slots.{slot_number}
use Rattle.fd_prob.specs.Spaces.{space}
use Rattle.fd_prob.proofs.Places.{place_below}
use Rattle.fd_solve.specs.declared.answers.LeafAnswer.{LeafAnswer}
use Rattle.fd_solve.specs.declared.answers.Solved.TheVariants as answers
use Rattle.fd_solve.specs.Answers.{IsLeafAnswer, IsLeast}
use Rattle.leaf_link.specs.Values.{Values}
use Rattle.leaf_link.specs.Cases.{Case, Fits, FitsCase, Way, case_at, cases_of, is_held}
use Rattle.leaf_link.specs.Kinds.{always, retires, retires_when}
use Rattle.leaf_link.specs.KindLaws.{IsPosed}
use Rattle.leaf_link.specs.Answers.{IsProblemOf, assignment_of, values_in}
use Rattle.leaf_link.specs.AllWays.{leaf_cases, ways_of}
use Rattle.leaf_link.specs.Firsts.{HasDraws, IsPosedProblem, first_case_at, firsts_at, with_cases}
use Rattle.leaf_link.specs.Extras.{AreAdded, IsExtraOf, met_by, passes_cuts}
use Rattle.leaf_link.specs.Problems.{bias_cut}
use Rattle.leaf_link.specs.Reaching.{HasPages}
use Rattle.leaf_link.specs.Witnesses.{bare_rows, busy_turn}
use Rattle.leaf_link.specs.BiasWitness.{HaveKeptBias, choice_leaf, no_draws, rd_in}
use Rattle.leaf_link.proofs.Numbers.{same_op}
use Rattle.leaf_link.proofs.Both.{each_slot}
use Rattle.leaf_link.proofs.Law.{fits_way}
use Rattle.leaf_link.proofs.Resting.{in_one}
use Rattle.leaf_link.proofs.Whole.{below_58, every_op, of_one, one_of}
use Rattle.leaf_link.proofs.Answering.{value_back, words_all}
use Rattle.leaf_link.proofs.Spacing.{space_is_exact}
use Rattle.leaf_link.proofs.Turning.{firsts_hold_nothing, fits_not}
use Rattle.leaf_link.proofs.Heading.{firsts_exist}
use Rattle.fd_prob.proofs.Fitted.{all_within, each_within}
use Rattle.leaf_link.proofs.Extending.{any_less, extras_are_biases, extras_stay, pages_more, posed_more}
use Rattle.leaf_link.proofs.Bounding.{space_is_bounded}
use Rattle.leaf_link.proofs.Possible.{all_in, bare_are_rows, bare_posed, fits_by, is_in_atom, plain_in}

abbrev start : ℕ
start = 0x8000_0000

abbrev the_cases : List Atom → List Case
the_cases leaf = leaf_cases busy_turn [] start leaf (bare_rows ForLoad) (bare_rows ForStore)

-- WHAT FITS
abbrev chosen : ℕ → Values
chosen rd slots.Op = op_number Addi
chosen rd slots.Rd = rd
chosen rd slots.Imm = 7
chosen rd _ = 0

-- a value of a variable in what fits
abbrev wanted : Slot → ℕ → Bool
wanted slots.Op v = eqb v (op_number Addi)
wanted slots.Rd v = eqb v 5 || eqb v 6
wanted slots.Imm v = eqb v 7
wanted _ v = eqb v 0

abbrev AreWanted : Values → Type 0
AreWanted x = (s : Slot) → wanted s (x s) ≡ true

are_chosen : (x : Values) (rd : ℕ) → AreWanted x → x slots.Rd ≡ rd → (s : Slot) → x s ≡ chosen rd s
are_chosen x rd h is slots.Op = eqb-true (x slots.Op) (op_number Addi) (h slots.Op)
are_chosen x rd h is slots.Rd = is
are_chosen x rd h is slots.Imm = eqb-true (x slots.Imm) 7 (h slots.Imm)
are_chosen x rd h is s = eqb-true (x s) 0 (h s)

five_or_six : (x : Values) → AreWanted x → (x ≡ chosen 5) ⊎ (x ≡ chosen 6)
five_or_six x h = elim (either (eqb (x slots.Rd) 5) (eqb (x slots.Rd) 6) (h slots.Rd)) [
  | inl e ↦ inl (fun_ext (are_chosen x 5 h (eqb-true (x slots.Rd) 5 e)))
  | inr e ↦ inr (fun_ext (are_chosen x 6 h (eqb-true (x slots.Rd) 6 e)))
]
  where
    either : (a b : Bool) → (a || b) ≡ true → (a ≡ true) ⊎ (b ≡ true)
    either true b h = inl refl
    either false b h = inr h

-- THE LEAF'S CASES
addi_fits : (leaf : List Atom) (x : Values) → Fits (cases_of busy_turn [] start leaf Addi (ways_of busy_turn [] start leaf (bare_rows ForLoad) (bare_rows ForStore) Addi)) x → Fits (the_cases leaf) x
addi_fits leaf x f = of_one busy_turn [] start leaf (ways_of busy_turn [] start leaf (bare_rows ForLoad) (bare_rows ForStore)) OPS x Addi (every_op Addi) f

five_fits : Fits (the_cases choice_leaf) (chosen 5)
unfolding op_number op_numbered
five_fits = addi_fits choice_leaf (chosen 5) (inl (fits_by _ _ refl refl refl))

six_fits : Fits (the_cases choice_leaf) (chosen 6)
unfolding op_number op_numbered
six_fits = addi_fits choice_leaf (chosen 6) (inl (fits_by _ _ refl refl refl))

five_fits_kept : Fits (the_cases (choice_leaf ++ rd_in 5)) (chosen 5)
unfolding op_number op_numbered
five_fits_kept = addi_fits (choice_leaf ++ rd_in 5) (chosen 5) (inl (fits_by _ _ refl refl refl))

wanted_fits : (x : Values) → AreWanted x → Fits (the_cases choice_leaf) x
wanted_fits x h = elim (five_or_six x h) [
  | inl e ↦ subst (λ (z : Values). Fits (the_cases choice_leaf) z) (sym e) five_fits
  | inr e ↦ subst (λ (z : Values). Fits (the_cases choice_leaf) z) (sym e) six_fits
]

pub one_in : (n v : ℕ) → (eqb n v || false) ≡ true → eqb v n ≡ true
one_in n v h = go (eqb n v) refl h
  where
    go : (b : Bool) → eqb n v ≡ b → (b || false) ≡ true → eqb v n ≡ true
    go true e h = eq-eqb v n (sym (eqb-true n v e))
    go false e h = absurd (cc h)

two_in : (n m v : ℕ) → (eqb n v || (eqb m v || false)) ≡ true → (eqb v n || eqb v m) ≡ true
two_in n m v h = go (eqb n v) refl h
  where
    first : (a b : Bool) → a ≡ true → (a || b) ≡ true
    first true b h = refl
    first false b h = absurd (cc h)

    last : (a b : Bool) → b ≡ true → (a || b) ≡ true
    last true b h = refl
    last false b h = h

    go : (b : Bool) → eqb n v ≡ b → (b || (eqb m v || false)) ≡ true → (eqb v n || eqb v m) ≡ true
    go true e h = first (eqb v n) (eqb v m) (eq-eqb v n (sym (eqb-true n v e)))
    go false e h = last (eqb v n) (eqb v m) (one_in m v h)

-- what an operation's tests say of a value
addi_wanted : (x : Values) → FitsCase (case_at busy_turn start choice_leaf Addi (retires_when always)) x → AreWanted x
unfolding op_numbered
addi_wanted x h =
    let rs1 : eqb (x slots.Rs1) 0 ≡ true = one_in 0 (x slots.Rs1) (and_parts _ _ (and_parts _ _ (and_parts _ _ (h.each slots.Rs1)).0).1).0 in
    let held = (and_parts _ _ (and_parts _ _ (and_parts _ _ h.holds).0).0).0 in
    each_slot (λ s. wanted s (x s) ≡ true) (record {
      op_slot = eq-eqb (x slots.Op) (op_number Addi) h.op;
      rs1_slot = rs1;
      rs2_slot = (and_parts _ _ (and_parts _ _ (h.each slots.Rs2)).0).0;
      imm_slot = one_in 7 (x slots.Imm) (and_parts _ _ (and_parts _ _ (and_parts _ _ (h.each slots.Imm)).0).1).0;
      rd_slot = two_in 5 6 (x slots.Rd) (and_parts _ _ (and_parts _ _ (and_parts _ _ (h.each slots.Rd)).0).1).0;
      csr_slot = (and_parts _ _ (and_parts _ _ (h.each slots.Csr)).0).0;
      ea_slot = (and_parts _ _ (h.each slots.Ea)).0;
      a_slot = one_in 0 (x slots.A) (ap (λ (b : Bool). b || false) (ap (λ (n : ℕ). is_held (busy_turn.known (Reg n)) (x slots.A)) (sym (eqb-true (x slots.Rs1) 0 rs1)) ∙ held));
      b_slot = (and_parts _ _ (h.each slots.B)).0;
      first_slot = h.each slots.FirstPte;
      second_slot = h.each slots.SecondPte;
      data_slot = h.each slots.DataWord;
      old_slot = h.each slots.OldCsr;
      vector_slot = h.each slots.Vector;
    })

-- the operation is the one of the leaf
op_is : (op : Op) (way : Way) (x : Values) → FitsCase (case_at busy_turn start choice_leaf op way) x → op ≡ Addi
op_is op way x h =
    let tested : (eqb (op_number Addi) (x slots.Op) || false) ≡ true = (and_parts _ _ (and_parts _ _ (and_parts _ _ (h.each slots.Op)).0).1).0 in
    let number : x slots.Op ≡ op_number Addi = eqb-true (x slots.Op) (op_number Addi) (one_in (op_number Addi) (x slots.Op) tested) in
    same_op op Addi (sym h.op ∙ number)

fits_wanted : (x : Values) → Fits (the_cases choice_leaf) x → AreWanted x
fits_wanted x f =
    let ways : Op → List Way = ways_of busy_turn [] start choice_leaf (bare_rows ForLoad) (bare_rows ForStore) in
    let o = one_of busy_turn [] start choice_leaf ways OPS x f in
    let w = fits_way busy_turn [] start choice_leaf o.0 (ways o.0) x o.1 in
    let op : o.0 ≡ Addi = op_is o.0 w.0 x w.3 in
    let item : HasItem retires w.0 = subst (λ (q : Op). HasItem (ways q) w.0) op w.1 in
    let fit : FitsCase (case_at busy_turn start choice_leaf Addi w.0) x = subst (λ (q : Op). FitsCase (case_at busy_turn start choice_leaf q w.0) x) op w.3 in
    addi_wanted x (subst (λ (z : Way). FitsCase (case_at busy_turn start choice_leaf Addi z) x) (sym (in_one (retires_when always) w.0 item)) fit)

-- A PROBLEM OF A SOLVER
abbrev choice_case : SolverCase
choice_case = record { op = op_number Addi; doms = map (λ s. elements_of (wanted s)) SLOTS; rels = [] }

dom_is : (s : Slot) → domain_of choice_case s ≡ elements_of (wanted s)
unfolding domain_of
dom_is slots.Op = refl
dom_is _ = refl

pub word_of_slot : (x : Assignment) (s : Slot) → IsAssignment x → value_of x s < 2 ^ 32
word_of_slot x s a = a.words (slot_number s) 0 (let b = place_below s in let n = a.length in omega (arith, b, n))

in_dom : (x : Assignment) (s : Slot) → IsAssignment x → is_in (domain_of choice_case s) (value_of x s) ≡ wanted s (value_of x s)
in_dom x s a = ap (λ (xs : List ℕ). is_in xs (value_of x s)) (dom_is s) ∙ is_in-elements (wanted s) (value_of x s) (word_of_slot x s a)

case_wanted : (x : Assignment) → IsAssignment x → fits_case x choice_case ≡ true → AreWanted (values_in x)
unfolding fits_case
case_wanted x a h s =
    sym (in_dom x s a) ∙ each_within choice_case x (and_parts (choice_case.op == value_of x slots.Op) (is_within choice_case x) (and_parts (choice_case.op == value_of x slots.Op && is_within choice_case x) true h).0).1 s

wanted_case : (x : Assignment) → IsAssignment x → AreWanted (values_in x) → fits_case x choice_case ≡ true
unfolding fits_case
wanted_case x a h =
    and_from _ _ (and_from _ _ (eq-eqb (op_number Addi) (value_of x slots.Op) (sym (eqb-true (value_of x slots.Op) (op_number Addi) (h slots.Op)))) (all_within choice_case x (λ s. in_dom x s a ∙ h s))) refl

abbrev bare_problem : Problem
bare_problem = record { cases = choice_case ∷ []; pivots = 0 ∷ 0 ∷ 0 ∷ 0 ∷ 0 ∷ 0 ∷ 0 ∷ 0 ∷ 0 ∷ 0 ∷ 0 ∷ 0 ∷ 0 ∷ 0 ∷ []; pairs = 1; fetch = false }

pub or_no_more : (b : Bool) → (b || false) ≡ true → b ≡ true
or_no_more true h = refl
or_no_more false h = h

bare_is : IsProblemOf bare_problem (the_cases choice_leaf)
bare_is = record { same = λ x a. (λ h. wanted_fits (values_in x) (case_wanted x a (or_no_more (fits_case x choice_case) h)), λ f. ap (λ (b : Bool). b || false) (wanted_case x a (fits_wanted (values_in x) f))) }

abbrev problem : Problem
problem = with_cases (firsts_at busy_turn start choice_leaf) bare_problem

all_cases : (ops : List Op) → All IsCase (map (first_case_at busy_turn start choice_leaf) ops ++ choice_case ∷ [])
all_cases [] = All-cons IsCase choice_case [] (record { op = below_58 Addi; domains = refl }) (All-nil IsCase)
all_cases (op ∷ ops) = All-cons IsCase (first_case_at busy_turn start choice_leaf op) (map (first_case_at busy_turn start choice_leaf) ops ++ choice_case ∷ []) (record { op = below_58 op; domains = refl }) (all_cases ops)

posed : IsPosed busy_turn [] start choice_leaf
unfolding all_in is_in_atom
posed = bare_posed choice_leaf refl

is_problem : IsPosedProblem busy_turn [] start choice_leaf (bare_rows ForLoad) (bare_rows ForStore) no_draws problem
is_problem =
    let firsts = firsts_exist busy_turn start choice_leaf bare_problem in
    record {
      shape = all_cases OPS;
      no_fetch = refl;
      pairs = refl;
      draws_are = draws;
      firsts = firsts.0;
      cases = (firsts_hold_nothing (firsts_at busy_turn start choice_leaf) bare_problem (the_cases choice_leaf) firsts.1).0 bare_is;
    }
  where
    draws : HasDraws no_draws problem
    draws slots.Op = refl
    draws _ = refl

-- BIASES
abbrev extra : ℕ → Extra
extra n = record { cases = map (λ op. true) OPS ++ true ∷ []; cuts = (slots.Rd, n ∷ []) ∷ []; rels = [] }

five_meets_five : met_by busy_turn (rd_in 5) (chosen 5) ≡ true
unfolding script at_address translated fetched_at instruction decoded immediate_row op_number op_numbered
five_meets_five = refl

five_meets_six : met_by busy_turn (rd_in 6) (chosen 5) ≡ false
unfolding script at_address translated fetched_at instruction decoded immediate_row op_number op_numbered
five_meets_six = refl

six_meets_five : met_by busy_turn (rd_in 5) (chosen 6) ≡ false
unfolding script at_address translated fetched_at instruction decoded immediate_row op_number op_numbered
six_meets_five = refl

six_meets_six : met_by busy_turn (rd_in 6) (chosen 6) ≡ true
unfolding script at_address translated fetched_at instruction decoded immediate_row op_number op_numbered
six_meets_six = refl

-- what a bias says is whether rd is its number
meets : (n : ℕ) → (n ≡ 5) ⊎ (n ≡ 6) → (x : Values) → AreWanted x → met_by busy_turn (rd_in n) x ≡ eqb n (x slots.Rd)
meets n is x h = elim (five_or_six x h) [
  | inl e ↦ elim is [
    | inl f ↦ subst (λ (m : ℕ). met_by busy_turn (rd_in m) x ≡ eqb m (x slots.Rd)) (sym f) (subst (λ (z : Values). met_by busy_turn (rd_in 5) z ≡ eqb 5 (z slots.Rd)) (sym e) five_meets_five)
    | inr s ↦ subst (λ (m : ℕ). met_by busy_turn (rd_in m) x ≡ eqb m (x slots.Rd)) (sym s) (subst (λ (z : Values). met_by busy_turn (rd_in 6) z ≡ eqb 6 (z slots.Rd)) (sym e) five_meets_six)
  ]
  | inr e ↦ elim is [
    | inl f ↦ subst (λ (m : ℕ). met_by busy_turn (rd_in m) x ≡ eqb m (x slots.Rd)) (sym f) (subst (λ (z : Values). met_by busy_turn (rd_in 5) z ≡ eqb 5 (z slots.Rd)) (sym e) six_meets_five)
    | inr s ↦ subst (λ (m : ℕ). met_by busy_turn (rd_in m) x ≡ eqb m (x slots.Rd)) (sym s) (subst (λ (z : Values). met_by busy_turn (rd_in 6) z ≡ eqb 6 (z slots.Rd)) (sym e) six_meets_six)
  ]
]

cut_is : (n : ℕ) (s : Slot) (v : ℕ) → v < 2 ^ 32 → passes_cuts ((slots.Rd, n ∷ []) ∷ []) s v ≡ bias_cut busy_turn (rd_in n) s v
cut_is n slots.Op v less = refl
cut_is n _ v less = refl

passes : (n : ℕ) (x : Assignment) → eqb n (value_of x slots.Rd) ≡ true → (s : Slot) → passes_cuts ((slots.Rd, n ∷ []) ∷ []) s (value_of x s) ≡ true
passes n x h slots.Rd = ap (λ (b : Bool). (b || false) && true) h
passes n x h _ = refl

are_added : (n : ℕ) → (n ≡ 5) ⊎ (n ≡ 6) → (ops : List Op) → AreAdded busy_turn (rd_in n) (extra n) (map (λ op. true) ops ++ true ∷ []) (map (first_case_at busy_turn start choice_leaf) ops ++ choice_case ∷ [])
are_added n is [] = (
  λ x a f.
      let same = meets n is (values_in x) (case_wanted x a f) in (
        λ p. same ∙ or_no_more (eqb n (value_of x slots.Rd)) (and_parts _ true (p.cuts slots.Rd)).0,
        λ m. record { stays_is = refl; cuts = passes n x (sym same ∙ m); rels = refl },
      ),
  tt,
)
are_added n is (op ∷ ops) = (λ x a f. absurd (let none = fits_not (first_case_at busy_turn start choice_leaf op) x (inl refl) in cc), are_added n is ops)

is_extra : (n : ℕ) → (n ≡ 5) ⊎ (n ≡ 6) → IsExtraOf busy_turn (rd_in n) (extra n) problem
is_extra n is = record { added = are_added n is OPS; cuts = cut_is n }

-- ANSWERS
rd_plain : (n : ℕ) (atom : Atom) → HasItem (rd_in n) atom → IsPlain atom
unfolding all_in is_in_atom
rd_plain n = plain_in (rd_in n) refl

abbrev kept_problem : Problem
kept_problem = extended (extra 5) problem

every_page : HasPages busy_turn choice_leaf (λ ea. true)
every_page ea less tested = refl

is_kept : IsPosedProblem busy_turn [] start (choice_leaf ++ rd_in 5) (bare_rows ForLoad) (bare_rows ForStore) no_draws kept_problem
is_kept = extras_are_biases busy_turn [] start choice_leaf (rd_in 5) (λ ea. true) (bare_rows ForLoad) (bare_rows ForStore) no_draws problem (extra 5) posed (rd_plain 5) every_page (bare_are_rows ForLoad) (bare_are_rows ForStore) is_problem (is_extra 5 (inl refl))

stays_extra : IsExtraOf busy_turn (rd_in 6) (extra 6) kept_problem
stays_extra = extras_stay busy_turn (rd_in 5) (rd_in 6) (extra 5) (extra 6) problem is_problem.shape (is_extra 5 (inl refl)) (is_extra 6 (inr refl))

is_both : IsPosedProblem busy_turn [] start ((choice_leaf ++ rd_in 5) ++ rd_in 6) (bare_rows ForLoad) (bare_rows ForStore) no_draws (extended (extra 6) kept_problem)
is_both = extras_are_biases busy_turn [] start (choice_leaf ++ rd_in 5) (rd_in 6) (λ ea. true) (bare_rows ForLoad) (bare_rows ForStore) no_draws kept_problem (extra 6)
    (posed_more busy_turn [] start choice_leaf (rd_in 5) posed (rd_plain 5)) (rd_plain 6) (pages_more busy_turn choice_leaf (rd_in 5) (λ ea. true) every_page) (bare_are_rows ForLoad) (bare_are_rows ForStore) is_kept stays_extra

space_few : (leaf : List Atom) (p : Problem) → IsPosedProblem busy_turn [] start leaf (bare_rows ForLoad) (bare_rows ForStore) no_draws p → space p ≤ 2 ^ 26
space_few leaf p is =
    let exact = space_is_exact busy_turn start leaf p is.no_fetch is.pairs is.firsts in
    let few = space_is_bounded busy_turn start leaf refl in omega (arith, exact, few)

-- what fits the problem with the first bias
kept_only : (x : Assignment) → IsAssignment x → fits kept_problem x ≡ true → values_in x ≡ chosen 5
kept_only x a h =
    let less = any_less busy_turn (rd_in 5) (extra 5) (extra 5).cases problem.cases x a is_problem.shape (is_extra 5 (inl refl)).added h in
    let want = fits_wanted (values_in x) ((is_problem.cases.same x a).0 less.0) in
    elim (five_or_six (values_in x) want) [
      | inl e ↦ e
      | inr e ↦ absurd (let met : met_by busy_turn (rd_in 5) (chosen 6) ≡ true = subst (λ (z : Values). met_by busy_turn (rd_in 5) z ≡ true) e less.1 in let isnt = six_meets_five in cc)
    ]

none_both : (x : Assignment) → IsAssignment x → fits (extended (extra 6) kept_problem) x ≡ true → ⊥
none_both x a h =
    let less = any_less busy_turn (rd_in 6) (extra 6) (extra 6).cases kept_problem.cases x a is_kept.shape stays_extra.added h in
    let e = kept_only x a less.0 in
    let met : met_by busy_turn (rd_in 6) (chosen 5) ≡ true = subst (λ (z : Values). met_by busy_turn (rd_in 6) z ≡ true) e less.1 in
    let isnt = five_meets_six in absurd (cc)

abbrev five : Assignment
five = assignment_of (chosen 5)

five_small : (s : Slot) → chosen 5 s < 2 ^ 32
five_small slots.Op = let small = below_58 Addi in omega (arith, small)
five_small slots.Rd = omega arith
five_small slots.Imm = omega arith
five_small _ = omega arith

five_back : values_in five ≡ chosen 5
five_back = fun_ext (value_back (chosen 5))

five_least : IsLeast kept_problem five
five_least =
    let a : IsAssignment five = words_all (chosen 5) five_small in
    record {
      words = a;
      fitting = (is_kept.cases.same five a).1 (subst (λ (z : Values). Fits (the_cases (choice_leaf ++ rd_in 5)) z) (sym five_back) five_fits_kept);
      least = λ y b h before.
          let same : values_in y ≡ values_in five = kept_only y b h ∙ sym five_back in
          let at_slot : value_of y before.0 ≡ value_of five before.0 = ap (λ (z : Values). z before.0) same in
          let near = before.2 in
          let ranks = ap (λ (v : ℕ). rank (pivot_of kept_problem (value_of y slots.Op) before.0) v) at_slot in absurd (omega (arith, near, ranks));
    }

abbrev answer : LeafAnswer
answer = record { solved = answers.Found five; dropped = (1, false) ∷ [] }

answered : IsLeafAnswer problem (extra 5 ∷ extra 6 ∷ []) (2 ^ 26) answer
answered = (
  kept_problem,
  (answers.Found five, (space_few (choice_leaf ++ rd_in 5) kept_problem is_kept, five_least), (answers.NoneFits, (space_few ((choice_leaf ++ rd_in 5) ++ rd_in 6) (extended (extra 6) kept_problem) is_both, none_both), refl)),
  (space_few (choice_leaf ++ rd_in 5) kept_problem is_kept, five_least),
)

pub have_kept_bias : HaveKeptBias
have_kept_bias = record {
  problem = problem;
  extras = extra 5 ∷ extra 6 ∷ [];
  answer = answer;
  posed = posed;
  sources = λ v. refl;
  plain = (rd_plain 5, (rd_plain 6, tt));
  inside = every_page;
  loads = bare_are_rows ForLoad;
  stores = bare_are_rows ForStore;
  is_problem = is_problem;
  are_extras = (is_extra 5 (inl refl), (is_extra 6 (inr refl), tt));
  answered = answered;
  kept = record { assignment = five; is = refl; has = refl };
  dropped = refl;
}
