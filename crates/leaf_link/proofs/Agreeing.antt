-- Two answers of a turn are the same.
use Rattle.std.proofs.Common.{◌≡◌, ℕ, ◌+◌, ◌%◌, ◌^◌, ◌<◌, ◌⊎◌, Bool, true, false, List, [], ◌∷◌, ◌++◌, length, get_or, map, refl, sym, ap, ◌∙◌, subst, inl, inr, arith}
use Rattle.std.specs.Prelude.{All}
use Rattle.std.proofs.Math.Path.{fun_ext}
use Rattle.std.proofs.lemmas.Bool.{and_parts, ltb-true}
use Rattle.std.proofs.lemmas.Nat.{mod_below}
use Rattle.std.proofs.lemmas.List.Elements.{All-map}
use Rattle.dom_set.proofs.Sets.{words}
use Rattle.rv_isa.specs.declared.operation.Op.{Op}
use Rattle.rv_isa.specs.declared.operation.TheConstants.{OPS}
use Rattle.rv_script.specs.Folds.{Known, Entry}
use Rattle.tpl_ast.specs.declared.template.Atom.{Atom}
use Rattle.fd_prob.specs.declared.slot.Slot.{Slot}
use Rattle.fd_prob.specs.declared.slot.Slot.TheVariants as slots
use Rattle.fd_prob.specs.Order.{picked}
use Rattle.rv_isa.specs.Numbers.{op_numbered, op_number}
use Rattle.fd_solve.specs.declared.answers.Solved.{Solved}
use Rattle.fd_solve.specs.declared.answers.Solved.TheVariants as answers
use Rattle.leaf_link.specs.Turns.{Turn}
use Rattle.leaf_link.specs.Values.{Values, instr_in, new_places}
use Rattle.leaf_link.specs.Candidates.{IsCandidate}
use Rattle.leaf_link.specs.KindLaws.{IsPosed}
use Rattle.leaf_link.specs.Answers.{IsAnswerOver, values_in}
use Rattle.leaf_link.specs.Problems.{key_of}
use Rattle.leaf_link.specs.Firsts.{IsTurnAnswer, Precedes, allowed_by, domain_list, leaf_draw, leaf_pivot, leaf_space}
use Rattle.leaf_link.specs.Fetches.{IsFetchCandidate, fetch_places}
use Rattle.leaf_link.specs.Faults.{IsFaultCandidate}
use Rattle.leaf_link.specs.FetchAnswers.{FetchPrecedes, fault_key, fetch_key, fetch_list, fetch_draw, fetch_pivot, fetch_space}
use Rattle.leaf_link.specs.Extras.{AllPlain, AreJudged, Taken}
use Rattle.leaf_link.specs.Agreements.{AreSame, FaultAnswersAgree, FetchAnswersAgree, LeafAnswersAgree, TurnAnswersAgree}
use Rattle.leaf_link.proofs.Totals.{AgreeBefore, AreWords, total}
use Rattle.leaf_link.proofs.InDomains.{candidates_are_words}
use Rattle.leaf_link.proofs.Whole.{below_58}
use Rattle.leaf_link.proofs.FetchAnswering.{fault_values_small, fetch_values_small}
use Rattle.leaf_link.proofs.Extending.{posed_more}

-- ANSWERS OVER WHAT IS WANTED
-- any two that are wanted are comparable
abbrev Comparable : (Values → Values → Type 0) → (Wanted : Known → Type 0) → ((new : Known) → Wanted new → Values) → Type 0
Comparable Comes Wanted values = (one : Known) (v : Wanted one) (two : Known) (w : Wanted two) → Comes (values one v) (values two w) ⊎ (((s : Slot) → values one v s ≡ values two w s) ⊎ Comes (values two w) (values one v))

answers_agree : (size nodes : ℕ) (Comes : Values → Values → Type 0) (Wanted : Known → Type 0) (values : (new : Known) → Wanted new → Values) (places : Values → Known) (one other : Solved)
    → Comparable Comes Wanted values → IsAnswerOver size nodes Comes Wanted values places one → IsAnswerOver size nodes Comes Wanted values places other → AreSame places one other
answers_agree size nodes Comes Wanted values places (answers.Found x) (answers.Found y) all a b =
    elim (all (places (values_in x)) a.1.is (places (values_in y)) b.1.is) [
      | inl before ↦ absurd (b.1.least (places (values_in x)) a.1.is before)
      | inr rest ↦ elim rest [
        | inl same ↦
            let equal : (s : Slot) → values_in x s ≡ values_in y s = λ s. a.1.are_values s ∙ same s ∙ sym (b.1.are_values s) in
            record { values = equal; starts = λ place. ap (λ (z : Values). places z place) (fun_ext equal) }
        | inr after ↦ absurd (a.1.least (places (values_in y)) b.1.is after)
      ]
    ]
answers_agree size nodes Comes Wanted values places (answers.Found x) answers.NoneFits all a b = absurd (b.1 (places (values_in x)) a.1.is)
answers_agree size nodes Comes Wanted values places (answers.Found x) answers.Spent all a b = absurd (omega (arith, a.0, b))
answers_agree size nodes Comes Wanted values places answers.NoneFits (answers.Found y) all a b = absurd (a.1 (places (values_in y)) b.1.is)
answers_agree size nodes Comes Wanted values places answers.NoneFits answers.NoneFits all a b = tt
answers_agree size nodes Comes Wanted values places answers.NoneFits answers.Spent all a b = absurd (omega (arith, a.0, b))
answers_agree size nodes Comes Wanted values places answers.Spent (answers.Found y) all a b = absurd (omega (arith, a, b.0))
answers_agree size nodes Comes Wanted values places answers.Spent answers.NoneFits all a b = absurd (omega (arith, a, b.0))
answers_agree size nodes Comes Wanted values places answers.Spent answers.Spent all a b = tt

-- PIVOTS
picked_small : (draw : ℕ) (xs : List ℕ) → All (λ v. v < 2 ^ 32) xs → picked draw xs < 2 ^ 32
picked_small draw [] small = omega arith
picked_small draw (x ∷ xs) small = small (draw % length (x ∷ xs)) 0 (mod_below draw (length (x ∷ xs)) (omega arith))

numbers_small : (ops : List Op) → All (λ v. v < 2 ^ 32) (map op_number ops)
numbers_small ops = All-map (λ v. v < 2 ^ 32) op_number ops (λ k op lt. let small = below_58 (get_or ops k op) in omega (arith, small))

pub leaf_pivot_small : (t : Turn) (pa : ℕ) (leaf : List Atom) (draws : List ℕ) (op : Op) (s : Slot) → leaf_pivot t pa leaf draws op s < 2 ^ 32
leaf_pivot_small t pa leaf draws op slots.Op = picked_small (leaf_draw draws slots.Op) _ (numbers_small (allowed_by t pa leaf OPS))
leaf_pivot_small t pa leaf draws op s = picked_small (leaf_draw draws s) (domain_list t pa leaf op s) (words _)

-- the pivot goes by the operation, but for that of the operation itself
pub leaf_pivot_alike : (t : Turn) (pa : ℕ) (leaf : List Atom) (draws : List ℕ) (x y : Values) (s : Slot) → AgreeBefore s x y → leaf_pivot t pa leaf draws (op_numbered (x slots.Op)) s ≡ leaf_pivot t pa leaf draws (op_numbered (y slots.Op)) s
leaf_pivot_alike t pa leaf draws x y slots.Op agree = refl
leaf_pivot_alike t pa leaf draws x y s agree = ap (λ (n : ℕ). leaf_pivot t pa leaf draws (op_numbered n) s) (agree slots.Op (omega arith))

-- LEAVES
pub turn_answers_agree : TurnAnswersAgree
turn_answers_agree t walk pa leaf draws nodes one other posed a b =
    answers_agree (leaf_space t pa leaf) nodes (Precedes t pa leaf draws) (IsCandidate t leaf) (key_of t leaf) (new_places t.fixed t.known) one other
    (λ m v n w. total (λ x s. leaf_pivot t pa leaf draws (op_numbered (x slots.Op)) s) (key_of t leaf m v) (key_of t leaf n w)
    (leaf_pivot_alike t pa leaf draws (key_of t leaf m v) (key_of t leaf n w)) (leaf_pivot_small t pa leaf draws (op_numbered (key_of t leaf m v slots.Op)))
    (candidates_are_words t walk pa leaf posed m v) (candidates_are_words t walk pa leaf posed n w))
    a b

-- BIASES
-- what is taken in the end, by two ways of judging
record SameEnds (places : Values → Known) (one other : Solved) (first second : List (ℕ × Bool)) : Type 0 where
  solved : AreSame places one other
  dropped : first ≡ second

judged_agree : (t : Turn) (walk : List Entry) (pa : ℕ) (biases : List (List Atom)) (draws : List ℕ) (nodes position : ℕ) (leaf : List Atom) (dropped : List (ℕ × Bool)) (m n : Taken) (one other : Solved)
    → IsPosed t walk pa leaf → AllPlain biases
    → AreJudged t pa draws nodes position biases (record { atoms = leaf; dropped = dropped }) m → IsTurnAnswer t pa m.atoms draws nodes one
    → AreJudged t pa draws nodes position biases (record { atoms = leaf; dropped = dropped }) n → IsTurnAnswer t pa n.atoms draws nodes other
    → SameEnds (new_places t.fixed t.known) one other m.dropped n.dropped
judged_agree t walk pa [] draws nodes position leaf dropped m n one other posed plain j a k b = record {
  solved = turn_answers_agree t walk pa leaf draws nodes one other posed (subst (λ (z : Taken). IsTurnAnswer t pa z.atoms draws nodes one) j a) (subst (λ (z : Taken). IsTurnAnswer t pa z.atoms draws nodes other) k b);
  dropped = ap (λ (z : Taken). z.dropped) j ∙ sym (ap (λ (z : Taken). z.dropped) k);
}
judged_agree t walk pa (bias ∷ biases) draws nodes position leaf dropped m n one other posed plain (answers.Found x, c, j) a (answers.Found y, d, k) b =
    judged_agree t walk pa biases draws nodes (position + 1) (leaf ++ bias) dropped m n one other (posed_more t walk pa leaf bias posed plain.0) plain.1 j a k b
judged_agree t walk pa (bias ∷ biases) draws nodes position leaf dropped m n one other posed plain (answers.Found x, c, j) a (answers.NoneFits, d, k) b =
    absurd (turn_answers_agree t walk pa (leaf ++ bias) draws nodes (answers.Found x) answers.NoneFits (posed_more t walk pa leaf bias posed plain.0) c d)
judged_agree t walk pa (bias ∷ biases) draws nodes position leaf dropped m n one other posed plain (answers.Found x, c, j) a (answers.Spent, d, k) b =
    absurd (turn_answers_agree t walk pa (leaf ++ bias) draws nodes (answers.Found x) answers.Spent (posed_more t walk pa leaf bias posed plain.0) c d)
judged_agree t walk pa (bias ∷ biases) draws nodes position leaf dropped m n one other posed plain (answers.NoneFits, c, j) a (answers.Found y, d, k) b =
    absurd (turn_answers_agree t walk pa (leaf ++ bias) draws nodes answers.NoneFits (answers.Found y) (posed_more t walk pa leaf bias posed plain.0) c d)
judged_agree t walk pa (bias ∷ biases) draws nodes position leaf dropped m n one other posed plain (answers.NoneFits, c, j) a (answers.NoneFits, d, k) b =
    judged_agree t walk pa biases draws nodes (position + 1) leaf (dropped ++ (position, false) ∷ []) m n one other posed plain.1 j a k b
judged_agree t walk pa (bias ∷ biases) draws nodes position leaf dropped m n one other posed plain (answers.NoneFits, c, j) a (answers.Spent, d, k) b =
    absurd (turn_answers_agree t walk pa (leaf ++ bias) draws nodes answers.NoneFits answers.Spent (posed_more t walk pa leaf bias posed plain.0) c d)
judged_agree t walk pa (bias ∷ biases) draws nodes position leaf dropped m n one other posed plain (answers.Spent, c, j) a (answers.Found y, d, k) b =
    absurd (turn_answers_agree t walk pa (leaf ++ bias) draws nodes answers.Spent (answers.Found y) (posed_more t walk pa leaf bias posed plain.0) c d)
judged_agree t walk pa (bias ∷ biases) draws nodes position leaf dropped m n one other posed plain (answers.Spent, c, j) a (answers.NoneFits, d, k) b =
    absurd (turn_answers_agree t walk pa (leaf ++ bias) draws nodes answers.Spent answers.NoneFits (posed_more t walk pa leaf bias posed plain.0) c d)
judged_agree t walk pa (bias ∷ biases) draws nodes position leaf dropped m n one other posed plain (answers.Spent, c, j) a (answers.Spent, d, k) b =
    judged_agree t walk pa biases draws nodes (position + 1) leaf (dropped ++ (position, true) ∷ []) m n one other posed plain.1 j a k b

pub leaf_answers_agree : LeafAnswersAgree
leaf_answers_agree t walk pa leaf biases draws nodes one other posed plain (m, j, a) (n, k, b) =
    let ends = judged_agree t walk pa biases draws nodes 0 leaf [] (record { atoms = m; dropped = one.dropped }) (record { atoms = n; dropped = other.dropped }) one.solved other.solved posed plain j a k b in
    (ends.solved, ends.dropped)

-- FETCHES
pub fetch_pivot_small : (t : Turn) (draws : List ℕ) (s : Slot) → fetch_pivot t draws s < 2 ^ 32
fetch_pivot_small t draws s = picked_small (fetch_draw draws s) (fetch_list t s) (words _)

pub fetch_answers_agree : FetchAnswersAgree
fetch_answers_agree t draws nodes one other a b =
    answers_agree (fetch_space t) nodes (FetchPrecedes t draws) (IsFetchCandidate t) (fetch_key t) (fetch_places t) one other
    (λ m v n w. total (λ x s. fetch_pivot t draws s) (fetch_key t m v) (fetch_key t n w) (λ s agree. refl) (fetch_pivot_small t draws) (small m v) (small n w))
    a b
  where
    small : (new : Known) (w : IsFetchCandidate t new) → AreWords (fetch_key t new w)
    small new w = fetch_values_small t w.log (λ e i h. ltb-true _ _ (and_parts _ _ (w.meets.may (instr_in (λ s. 0)) e i h)).0)

pub fault_answers_agree : FaultAnswersAgree
fault_answers_agree t causes draws nodes one other a b =
    answers_agree (fetch_space t) nodes (FetchPrecedes t draws) (IsFaultCandidate t causes) (fault_key t causes) (new_places t.fixed t.known) one other
    (λ m v n w. total (λ x s. fetch_pivot t draws s) (fault_key t causes m v) (fault_key t causes n w) (λ s agree. refl) (fetch_pivot_small t draws) (small m v) (small n w))
    a b
  where
    small : (new : Known) (w : IsFaultCandidate t causes new) → AreWords (fault_key t causes new w)
    small new w = fault_values_small t w.log (λ e i h. ltb-true _ _ (and_parts _ _ (w.meets.may (instr_in (λ s. 0)) e i h)).0)
