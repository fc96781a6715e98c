-- A turn has an answer.
use Rattle.std.proofs.Common.{◌≡◌, ℕ, ◌+◌, ◌^◌, ◌<◌, ◌⊎◌, ◌&&◌, Bool, true, false, eqb, List, [], ◌∷◌, ◌++◌, refl, sym, ◌∙◌, subst, inl, inr, arith}
use Rattle.std.specs.List.{list_all}
use Rattle.std.proofs.Math.Path.{fun_ext}
use Rattle.std.proofs.lemmas.Bool.{and_from, and_parts, cases_Bool, cases_lt, eq-eqb, eqb-true}
use Rattle.rv_script.specs.Folds.{Known, Entry}
use Rattle.sv_walk.specs.declared.entry.Kind.TheVariants.{Load as ForLoad, Store as ForStore}
use Rattle.addr_rows.specs.Walks.{EntryRow}
use Rattle.tpl_ast.specs.declared.template.Atom.{Atom}
use Rattle.fd_prob.specs.declared.slot.Slot.{Slot}
use Rattle.fd_prob.specs.declared.slot.Slot.TheVariants as slots
use Rattle.fd_prob.specs.declared.slot.TheConstants.{SLOTS}
use Rattle.rv_isa.specs.Numbers.{op_numbered}
use Rattle.fd_solve.specs.declared.answers.Solved.{Solved}
use Rattle.fd_solve.specs.declared.answers.Solved.TheVariants as answers
use Rattle.leaf_link.specs.Turns.{Turn}
use Rattle.leaf_link.specs.Values.{Values, new_places}
use Rattle.leaf_link.specs.Candidates.{IsCandidate}
use Rattle.leaf_link.specs.Cases.{Case, Fits, FitsCase}
use Rattle.leaf_link.specs.Laws.{OneToOne}
use Rattle.leaf_link.specs.KindLaws.{IsPosed}
use Rattle.leaf_link.specs.Reaching.{AreRows, HasPages}
use Rattle.leaf_link.specs.Answers.{IsAnswerOver, assignment_of, values_in}
use Rattle.leaf_link.specs.Problems.{key_of}
use Rattle.leaf_link.specs.AllWays.{leaf_cases}
use Rattle.leaf_link.specs.Firsts.{IsTurnAnswer, leaf_pivot, leaf_space}
use Rattle.leaf_link.specs.Fetches.{IsFetchCandidate, fetch_places}
use Rattle.leaf_link.specs.FetchRows.{fetch_cases}
use Rattle.leaf_link.specs.Faults.{IsFaultCandidate}
use Rattle.leaf_link.specs.FaultRows.{fault_cases}
use Rattle.leaf_link.specs.FetchAnswers.{fault_key, fetch_key, fetch_pivot, fetch_space}
use Rattle.leaf_link.specs.Extras.{AllPlain, AreJudged, Taken}
use Rattle.leaf_link.specs.Agreements.{FaultAnswersExist, FetchAnswersExist, LeafAnswersExist, TurnAnswersExist}
use Rattle.leaf_link.proofs.Answering.{value_back}
use Rattle.leaf_link.proofs.Possible.{fits_by}
use Rattle.leaf_link.proofs.Extending.{pages_more, posed_more}
use Rattle.leaf_link.proofs.Every.{leaf_problems_are_exact}
use Rattle.leaf_link.proofs.FetchFits.{fetch_problems_are_exact}
use Rattle.leaf_link.proofs.FaultFits.{fault_problems_are_exact}
use Rattle.leaf_link.proofs.FetchAnswering.{fault_small, fetch_small}
use Rattle.leaf_link.proofs.InDomains.{candidates_are_words}
use Rattle.leaf_link.proofs.Totals.{AgreeBefore, AreWords, Before}
use Rattle.leaf_link.proofs.Finding.{least_of_all}
use Rattle.leaf_link.proofs.Agreeing.{fetch_pivot_small, leaf_pivot_alike, leaf_pivot_small}

-- WHETHER VALUES FIT
all_from : (test : Slot → Bool) → ((s : Slot) → test s ≡ true) → (ss : List Slot) → list_all test ss ≡ true
all_from test h [] = refl
all_from test h (s ∷ ss) = and_from (test s) (list_all test ss) (h s) (all_from test h ss)

fits_or_not : (c : Case) (x : Values) → FitsCase c x ⊎ (FitsCase c x → ⊥)
fits_or_not c x = elim (cases_Bool (eqb (x slots.Op) c.op && (list_all (λ s. c.doms s (x s)) SLOTS && c.holds x))) [
  | inl passes ↦ let a = and_parts (eqb (x slots.Op) c.op) (list_all (λ s. c.doms s (x s)) SLOTS && c.holds x) passes in let b = and_parts (list_all (λ s. c.doms s (x s)) SLOTS) (c.holds x) a.1 in inl (fits_by c x (eqb-true (x slots.Op) c.op a.0) b.0 b.1)
  | inr isnt ↦ inr (λ f. let all : (eqb (x slots.Op) c.op && (list_all (λ s. c.doms s (x s)) SLOTS && c.holds x)) ≡ true = and_from _ _ (eq-eqb (x slots.Op) c.op f.op) (and_from _ _ (all_from (λ s. c.doms s (x s)) f.each SLOTS) f.holds) in absurd (cc))
]

decided : (cs : List Case) (x : Values) → Fits cs x ⊎ (Fits cs x → ⊥)
decided [] x = inr (λ f. f)
decided (c ∷ cs) x = go (fits_or_not c x) (decided cs x)
  where
    go : FitsCase c x ⊎ (FitsCase c x → ⊥) → Fits cs x ⊎ (Fits cs x → ⊥) → (FitsCase c x ⊎ Fits cs x) ⊎ ((FitsCase c x ⊎ Fits cs x) → ⊥)
    go (inl f) d = inl (inl f)
    go (inr n) (inl f) = inl (inr f)
    go (inr n) (inr m) = inr (λ e. elim e [ inl f ↦ n f | inr f ↦ m f ])

-- AN ANSWER
-- of what stands one to one for what fits cases, in an order by pivots
answer_over : (cs : List Case) (size nodes : ℕ) (pivot : Values → Slot → ℕ) (Wanted : Known → Type 0) (values : (new : Known) → Wanted new → Values) (places : Values → Known)
    → OneToOne (Fits cs) Wanted places values → ((x : Values) → Fits cs x → AreWords x) → ((x y : Values) (s : Slot) → AgreeBefore s x y → pivot x s ≡ pivot y s) → ((x : Values) (s : Slot) → pivot x s < 2 ^ 32)
    → (answer : Solved) × IsAnswerOver size nodes (Before pivot) Wanted values places answer
answer_over cs size nodes pivot Wanted values places law small alike words = elim (cases_lt nodes size) [
  | inl spent ↦ (answers.Spent, spent)
  | inr enough ↦ elim (least_of_all (Fits cs) (decided cs) small pivot alike words) [
    | inl l ↦
        let x : Values = l.values in
        let back : values_in (assignment_of x) ≡ x = fun_ext (value_back x) in
        let fit : Fits cs (values_in (assignment_of x)) = subst (λ (z : Values). Fits cs z) (sym back) l.fit in
        let wanted : Wanted (places (values_in (assignment_of x))) = law.into (values_in (assignment_of x)) fit in
        let its_values : values (places (values_in (assignment_of x))) wanted ≡ x = sym (fun_ext (law.are_values (values_in (assignment_of x)) fit)) ∙ back in (
          answers.Found (assignment_of x),
          (
            enough,
            record {
              is = wanted;
              are_values = law.are_values (values_in (assignment_of x)) fit;
              least = λ other w before. l.least (values other w) (fits_values other w) (λ r none. absurd (omega (arith, none))) (subst (λ (z : Values). Before pivot (values other w) z) its_values before);
            },
          ),
        )
    | inr none ↦ (answers.NoneFits, (enough, λ other w. none (values other w) (fits_values other w) (λ r less. absurd (omega (arith, less)))))
  ]
]
  where
    fits_values : (other : Known) (w : Wanted other) → Fits cs (values other w)
    fits_values other w = let o = law.onto other w in subst (λ (z : Values). Fits cs z) (fun_ext o.3) o.1

-- LEAVES
pub turn_answers_exist : TurnAnswersExist
turn_answers_exist t walk pa leaf pages loads stores draws nodes posed h l s =
    let law = leaf_problems_are_exact t walk pa leaf pages loads stores posed h l s in
    answer_over (leaf_cases t walk pa leaf loads stores) (leaf_space t pa leaf) nodes (λ x r. leaf_pivot t pa leaf draws (op_numbered (x slots.Op)) r) (IsCandidate t leaf) (key_of t leaf) (new_places t.fixed t.known) law
    (λ x f r. subst (λ (n : ℕ). n < 2 ^ 32) (sym (law.are_values x f r)) (candidates_are_words t walk pa leaf posed (new_places t.fixed t.known x) (law.into x f) r))
    (leaf_pivot_alike t pa leaf draws) (λ x r. leaf_pivot_small t pa leaf draws (op_numbered (x slots.Op)) r)

-- BIASES
record HasJudged (t : Turn) (walk : List Entry) (pa : ℕ) (pages : ℕ → Bool) (draws : List ℕ) (nodes position : ℕ) (biases : List (List Atom)) (before : Taken) : Type 0 where
  after : Taken
  judged : AreJudged t pa draws nodes position biases before after
  posed : IsPosed t walk pa after.atoms
  inside : HasPages t after.atoms pages

biases_judged : (t : Turn) (walk : List Entry) (pa : ℕ) (biases : List (List Atom)) (pages : ℕ → Bool) (loads stores : List EntryRow) (draws : List ℕ) (nodes position : ℕ) (leaf : List Atom) (dropped : List (ℕ × Bool))
    → IsPosed t walk pa leaf → AllPlain biases → HasPages t leaf pages → AreRows t pages ForLoad loads → AreRows t pages ForStore stores → HasJudged t walk pa pages draws nodes position biases (record { atoms = leaf; dropped = dropped })
biases_judged t walk pa [] pages loads stores draws nodes position leaf dropped posed plain h l s = record { after = record { atoms = leaf; dropped = dropped }; judged = refl; posed = posed; inside = h }
biases_judged t walk pa (bias ∷ biases) pages loads stores draws nodes position leaf dropped posed plain h l s =
    go (turn_answers_exist t walk pa (leaf ++ bias) pages loads stores draws nodes more narrow l s) (biases_judged t walk pa biases pages loads stores draws nodes (position + 1) (leaf ++ bias) dropped more plain.1 narrow l s)
    (λ spent. biases_judged t walk pa biases pages loads stores draws nodes (position + 1) leaf (dropped ++ (position, spent) ∷ []) posed plain.1 h l s)
  where
    more : IsPosed t walk pa (leaf ++ bias)
    more = posed_more t walk pa leaf bias posed plain.0

    narrow : HasPages t (leaf ++ bias) pages
    narrow = pages_more t leaf bias pages h

    go : (answer : Solved) × IsTurnAnswer t pa (leaf ++ bias) draws nodes answer → HasJudged t walk pa pages draws nodes (position + 1) biases (record { atoms = leaf ++ bias; dropped = dropped })
        → ((spent : Bool) → HasJudged t walk pa pages draws nodes (position + 1) biases (record { atoms = leaf; dropped = dropped ++ (position, spent) ∷ [] }))
        → HasJudged t walk pa pages draws nodes position (bias ∷ biases) (record { atoms = leaf; dropped = dropped })
    go (answers.Found x, a) kept gone = record { after = kept.after; judged = (answers.Found x, a, kept.judged); posed = kept.posed; inside = kept.inside }
    go (answers.NoneFits, a) kept gone = let r = gone false in record { after = r.after; judged = (answers.NoneFits, a, r.judged); posed = r.posed; inside = r.inside }
    go (answers.Spent, a) kept gone = let r = gone true in record { after = r.after; judged = (answers.Spent, a, r.judged); posed = r.posed; inside = r.inside }

pub leaf_answers_exist : LeafAnswersExist
leaf_answers_exist t walk pa leaf biases pages loads stores draws nodes posed plain h l s =
    let r = biases_judged t walk pa biases pages loads stores draws nodes 0 leaf [] posed plain h l s in
    let a = turn_answers_exist t walk pa r.after.atoms pages loads stores draws nodes r.posed r.inside l s in
    (record { solved = a.0; dropped = r.after.dropped }, (r.after.atoms, r.judged, a.1))

-- FETCHES
pub fetch_answers_exist : FetchAnswersExist
fetch_answers_exist t rows draws nodes are =
    answer_over (fetch_cases t rows) (fetch_space t) nodes (λ x s. fetch_pivot t draws s) (IsFetchCandidate t) (fetch_key t) (fetch_places t) (fetch_problems_are_exact t rows are) (fetch_small t rows are)
    (λ x y s agree. refl) (λ x s. fetch_pivot_small t draws s)

pub fault_answers_exist : FaultAnswersExist
fault_answers_exist t causes rows draws nodes are =
    answer_over (fault_cases t causes rows) (fetch_space t) nodes (λ x s. fetch_pivot t draws s) (IsFaultCandidate t causes) (fault_key t causes) (new_places t.fixed t.known) (fault_problems_are_exact t causes rows are) (fault_small t causes rows are)
    (λ x y s agree. refl) (λ x s. fetch_pivot_small t draws s)
