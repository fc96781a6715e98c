-- The answer of a problem is the answer over what its fitting assignments stand for.
use Rattle.std.proofs.Common.{◌≡◌, ℕ, ◌^◌, ◌<◌, ◌≤◌, true, List, [], ◌∷◌, map, refl, sym, ◌∙◌, subst}
use Rattle.std.specs.Prelude.{All}
use Rattle.std.proofs.Math.Path.{fun_ext}
use Rattle.std.proofs.lemmas.List.Elements.{All-cons, All-nil}
use Rattle.rv_script.specs.Folds.{Known}
use Rattle.fd_prob.specs.declared.problem.Assignment.{Assignment}
use Rattle.fd_prob.specs.declared.problem.Problem.{Problem}
use Rattle.fd_prob.specs.declared.slot.Slot.{Slot}
use Rattle.fd_prob.specs.declared.slot.Slot.TheVariants as slots
use Rattle.fd_prob.specs.Fitting.{fits}
use Rattle.fd_prob.specs.Order.{ComesBefore, IsAssignment, pivot_of, rank}
use Rattle.fd_prob.specs.Relations.{value_of}
use Rattle.fd_prob.specs.Slots.{slot_number}
use Rattle.fd_prob.specs.Spaces.{space}
use Rattle.fd_solve.specs.declared.answers.Solved.{Solved}
use Rattle.fd_solve.specs.declared.answers.Solved.TheVariants as answers
use Rattle.fd_solve.specs.Answers.{IsAnswer}
use Rattle.leaf_link.specs.Values.{Values}
use Rattle.leaf_link.specs.Cases.{Case, Fits}
use Rattle.leaf_link.specs.Laws.{OneToOne}
use Rattle.leaf_link.specs.Answers.{ComesBeforeIn, IsAnswerOver, IsProblemOf, assignment_of, values_in}

-- VALUES AS ASSIGNMENTS
pub value_back : (x : Values) (s : Slot) → value_of (assignment_of x) s ≡ x s
value_back x slots.Op = refl
value_back x _ = refl

all_slots : (x : Values) → ((s : Slot) → x s < 2 ^ 32) → (ss : List Slot) → All (λ (v : ℕ). v < 2 ^ 32) (map x ss)
all_slots x h [] = All-nil (λ (v : ℕ). v < 2 ^ 32)
all_slots x h (s ∷ ss) = All-cons (λ (v : ℕ). v < 2 ^ 32) (x s) (map x ss) (h s) (all_slots x h ss)

pub words_all : (x : Values) → ((s : Slot) → x s < 2 ^ 32) → IsAssignment (assignment_of x)
words_all x h = record {
  length = refl;
  words = all_slots x h (slots.Op ∷ slots.Rs1 ∷ slots.Rs2 ∷ slots.Imm ∷ slots.Rd ∷ slots.Csr ∷ slots.Ea ∷ slots.A ∷ slots.B ∷ slots.FirstPte ∷ slots.SecondPte ∷ slots.DataWord ∷ slots.OldCsr ∷ slots.Vector ∷ []);
}

before_same : (p : Problem) (x y z : Assignment) → ((s : Slot) → value_of y s ≡ value_of z s) → ComesBefore p x y → ComesBefore p x z
before_same p x y z h b =
    (b.0, λ r less. b.1 r less ∙ h r, subst (λ (v : ℕ). rank (pivot_of p (value_of x slots.Op) b.0) (value_of x b.0) < rank (pivot_of p (value_of x slots.Op) b.0) v) (h b.0) b.2)

-- who is nearer at the first variable in which two differ comes before
pub before_by : (p : Problem) (x y : Values) (s : Slot) → ((r : Slot) → slot_number r < slot_number s → x r ≡ y r)
    → rank (pivot_of p (x slots.Op) s) (x s) < rank (pivot_of p (x slots.Op) s) (y s) → ComesBeforeIn p x y
before_by p x y s same near = (
  s,
  λ r less. value_back x r ∙ same r less ∙ sym (value_back y r),
  subst (λ (v : ℕ). rank (pivot_of p (x slots.Op) s) v < rank (pivot_of p (x slots.Op) s) (value_of (assignment_of y) s)) (sym (value_back x s))
      (subst (λ (v : ℕ). rank (pivot_of p (x slots.Op) s) (x s) < rank (pivot_of p (x slots.Op) s) v) (sym (value_back y s)) near),
)

-- ANSWERS
-- what is wanted fits, by its values
fitting : (p : Problem) (cs : List Case) (Wanted : Known → Type 0) (values : (new : Known) → Wanted new → Values) (places : Values → Known)
    → OneToOne (Fits cs) Wanted places values → ((x : Values) → Fits cs x → (s : Slot) → x s < 2 ^ 32) → IsProblemOf p cs
    → (new : Known) (w : Wanted new) → IsAssignment (assignment_of (values new w)) × (fits p (assignment_of (values new w)) ≡ true)
fitting p cs Wanted values places law small is new w =
    let key : Values = values new w in
    let o = law.onto new w in
    let fits_key : Fits cs key = subst (λ (z : Values). Fits cs z) (fun_ext o.3) o.1 in
    let are : IsAssignment (assignment_of key) = words_all key (small key fits_key) in
    let back : values_in (assignment_of key) ≡ key = fun_ext (value_back key) in
    (are, (is.same (assignment_of key) are).1 (subst (λ (z : Values). Fits cs z) (sym back) fits_key))

-- with the space and the order of the problem
pub answers_over : (p : Problem) (cs : List Case) (nodes : ℕ) (answer : Solved) (Wanted : Known → Type 0) (values : (new : Known) → Wanted new → Values) (places : Values → Known)
    → OneToOne (Fits cs) Wanted places values → ((x : Values) → Fits cs x → (s : Slot) → x s < 2 ^ 32) → IsProblemOf p cs → IsAnswer p nodes answer
    → IsAnswerOver (space p) nodes (ComesBeforeIn p) Wanted values places answer
answers_over p cs nodes (answers.Found x) Wanted values places law small is a =
    let fit : Fits cs (values_in x) = (is.same x a.1.words).0 a.1.fitting in
    let w : Wanted (places (values_in x)) = law.into (values_in x) fit in (
      a.0,
      record {
        is = w;
        are_values = law.are_values (values_in x) fit;
        least = λ other v before.
            let f = fitting p cs Wanted values places law small is other v in
            let key : Values = values (places (values_in x)) w in
            a.1.least (assignment_of (values other v)) f.0 f.1 (before_same p (assignment_of (values other v)) (assignment_of key) x (λ s. value_back key s ∙ sym (law.are_values (values_in x) fit s)) before);
      },
    )
answers_over p cs nodes answers.NoneFits Wanted values places law small is a = (
  a.0,
  λ other v. let f = fitting p cs Wanted values places law small is other v in a.1 (assignment_of (values other v)) f.0 f.1,
)
answers_over p cs nodes answers.Spent Wanted values places law small is a = a

-- with another space that is the same, and another order that is the same on what is wanted
pub answers_moved : (size room nodes : ℕ) (Before After : Values → Values → Type 0) (Wanted : Known → Type 0) (values : (new : Known) → Wanted new → Values) (places : Values → Known) (answer : Solved)
    → size ≡ room → ((one : Known) (v : Wanted one) (two : Known) (w : Wanted two) → After (values one v) (values two w) → Before (values one v) (values two w))
    → IsAnswerOver size nodes Before Wanted values places answer → IsAnswerOver room nodes After Wanted values places answer
answers_moved size room nodes Before After Wanted values places (answers.Found x) same moves a =
    (subst (λ (n : ℕ). n ≤ nodes) same a.0, record { is = a.1.is; are_values = a.1.are_values; least = λ other w b. a.1.least other w (moves other w (places (values_in x)) a.1.is b) })
answers_moved size room nodes Before After Wanted values places answers.NoneFits same moves a = (subst (λ (n : ℕ). n ≤ nodes) same a.0, a.1)
answers_moved size room nodes Before After Wanted values places answers.Spent same moves a = subst (λ (n : ℕ). nodes < n) same a
