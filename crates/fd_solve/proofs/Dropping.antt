-- The problem with the biases that are not listed.
use Rattle.std.proofs.Common.{◌≡◌, ◌≢◌, ℕ, ◌+◌, ◌<◌, ◌≤◌, ◌==◌, Bool, true, false, ◌||◌, List, [], ◌∷◌, ◌++◌, refl, sym, ap, ◌∙◌, subst, arith}
use Rattle.std.specs.Prelude.{if◌then◌else◌}
use Rattle.std.proofs.lemmas.Bool.Decides.{nat_tests}
use Rattle.std.proofs.lemmas.List.Folds.{list_any-append}
use Rattle.fd_prob.specs.declared.problem.Extra.{Extra}
use Rattle.fd_prob.specs.declared.problem.Problem.{Problem}
use Rattle.fd_solve.specs.declared.answers.Solved.{Solved}
use Rattle.fd_solve.specs.declared.answers.Solved.TheVariants as answers
use Rattle.fd_solve.specs.Answers.{AreTaken, IsAnswer, Kept, kept_by}
use Rattle.fd_solve.specs.Dropping.{KeptAreExtended, LeafAnswersAreOfKept, extended_by, is_listed, kept_from}

other_number : (m n : ℕ) → m ≢ n → (m == n) ≡ false
other_number m n ne = grind (arith, nat_tests)

same_number : (n : ℕ) → (n == n) ≡ true
same_number n = grind (arith, nat_tests)

or_false : (b : Bool) → (b || false) ≡ b
or_false true = refl
or_false false = refl

or_true : (b : Bool) → (b || true) ≡ true
or_true true = refl
or_true false = refl

listed_more : (dropped : List (ℕ × Bool)) (m : ℕ) (b : Bool) (n : ℕ) → is_listed (dropped ++ (m, b) ∷ []) n ≡ (is_listed dropped n || (m == n))
listed_more dropped m b n = list_any-append (λ d. d.0 == n) dropped ((m, b) ∷ []) ∙ ap (λ (p : Bool). is_listed dropped n || p) (or_false (m == n))

listed_other : (dropped : List (ℕ × Bool)) (m : ℕ) (b : Bool) (n : ℕ) → m ≢ n → is_listed (dropped ++ (m, b) ∷ []) n ≡ is_listed dropped n
listed_other dropped m b n ne = listed_more dropped m b n ∙ ap (λ (p : Bool). is_listed dropped n || p) (other_number m n ne) ∙ or_false (is_listed dropped n)

listed_last : (dropped : List (ℕ × Bool)) (n : ℕ) (b : Bool) → is_listed (dropped ++ (n, b) ∷ []) n ≡ true
listed_last dropped n b = listed_more dropped n b n ∙ ap (λ (p : Bool). is_listed dropped n || p) (same_number n) ∙ or_true (is_listed dropped n)

-- a step lists no other position
step_other : (answer : Solved) (n : ℕ) (e : Extra) (before : Kept) (k : ℕ) → n ≢ k → is_listed (kept_by answer n e before).dropped k ≡ is_listed before.dropped k
step_other (answers.Found x) n e before k ne = refl
step_other answers.NoneFits n e before k ne = listed_other before.dropped n false k ne
step_other answers.Spent n e before k ne = listed_other before.dropped n true k ne

-- what is taken from a position on lists no earlier one
earlier : (nodes n : ℕ) (es : List Extra) (before after : Kept) → AreTaken nodes n es before after → (k : ℕ) → k < n → is_listed after.dropped k ≡ is_listed before.dropped k
earlier nodes n [] before after is k lt = ap (λ (kept : Kept). is_listed kept.dropped k) is
earlier nodes n (e ∷ es) before after (answer, answered, rest) k lt =
    earlier nodes (n + 1) es (kept_by answer n e before) after rest k (omega (arith, lt)) ∙ step_other answer n e before k (λ same. absurd (omega (arith, same, lt)))

-- after a step, the problem with it and with what the rest keeps is that with what all keep
one_kept : (answer : Solved) (n : ℕ) (e : Extra) (before : Kept) (more : List Extra) (listed : Bool) → is_listed before.dropped n ≡ false → listed ≡ is_listed (kept_by answer n e before).dropped n → extended_by more (kept_by answer n e before).problem ≡ extended_by (if listed then more else e ∷ more) before.problem
one_kept (answers.Found x) n e before more listed free is = ap (λ (b : Bool). extended_by (if b then more else e ∷ more) before.problem) (sym (is ∙ free))
one_kept answers.NoneFits n e before more listed free is = ap (λ (b : Bool). extended_by (if b then more else e ∷ more) before.problem) (sym (is ∙ listed_last before.dropped n false))
one_kept answers.Spent n e before more listed free is = ap (λ (b : Bool). extended_by (if b then more else e ∷ more) before.problem) (sym (is ∙ listed_last before.dropped n true))

kept : (nodes n : ℕ) (es : List Extra) (before after : Kept) → ((k : ℕ) → n ≤ k → is_listed before.dropped k ≡ false) → AreTaken nodes n es before after → after.problem ≡ extended_by (kept_from n es after.dropped) before.problem
kept nodes n [] before after free is = ap (λ (k : Kept). k.problem) is
kept nodes n (e ∷ es) before after free (answer, answered, rest) =
    kept nodes (n + 1) es (kept_by answer n e before) after (λ k le. step_other answer n e before k (λ same. absurd (omega (arith, same, le))) ∙ free k (omega (arith, le))) rest
    ∙ one_kept answer n e before (kept_from (n + 1) es after.dropped) (is_listed after.dropped n) (free n (omega arith)) (earlier nodes (n + 1) es (kept_by answer n e before) after rest n (omega arith))

pub kept_extended : KeptAreExtended
kept_extended p biases nodes after taken = kept nodes 0 biases (record { problem = p; dropped = [] }) after (λ k le. refl) taken

pub leaf_answers : LeafAnswersAreOfKept
leaf_answers p biases nodes answer (whole, taken, answered) =
    subst (λ (q : Problem). IsAnswer q nodes answer.solved)
    (kept_extended p biases nodes (record { problem = whole; dropped = answer.dropped }) taken)
    answered
