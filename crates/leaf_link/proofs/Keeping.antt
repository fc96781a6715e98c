-- The biases that a solver keeps are those that have a candidate.
use Rattle.std.proofs.Common.{◌≡◌, ℕ, ◌+◌, Bool, true, false, List, [], ◌∷◌, ◌++◌, sym, ap, subst}
use Rattle.rv_script.specs.Folds.{Entry}
use Rattle.sv_walk.specs.declared.entry.Kind.TheVariants.{Load as ForLoad, Store as ForStore}
use Rattle.addr_rows.specs.Walks.{EntryRow}
use Rattle.tpl_ast.specs.declared.template.Atom.{Atom}
use Rattle.fd_prob.specs.declared.problem.Extra.{Extra}
use Rattle.fd_prob.specs.declared.problem.Problem.{Problem}
use Rattle.fd_prob.specs.Extras.{extended}
use Rattle.fd_prob.specs.Fitting.{IsProblem}
use Rattle.fd_solve.specs.declared.answers.Solved.{Solved}
use Rattle.fd_solve.specs.declared.answers.Solved.TheVariants as answers
use Rattle.fd_solve.specs.Answers.{AreTaken, IsAnswer, Kept}
use Rattle.leaf_link.specs.Turns.{Turn}
use Rattle.leaf_link.specs.KindLaws.{IsPosed}
use Rattle.leaf_link.specs.Reaching.{AreRows, HasPages}
use Rattle.leaf_link.specs.Firsts.{IsPosedProblem, IsTurnAnswer}
use Rattle.leaf_link.specs.Extras.{AllPlain, AreJudged, ArePosedExtras, BiasesAreKept, IsExtraOf, Taken}
use Rattle.leaf_link.proofs.Extending.{extras_are_biases, extras_stay, pages_more, posed_more}
use Rattle.leaf_link.proofs.Turning.{turn_answers_are_exact}

posed_answer : (t : Turn) (walk : List Entry) (pa : ℕ) (leaf : List Atom) (pages : ℕ → Bool) (loads stores : List EntryRow) (draws : List ℕ) (p : Problem) (nodes : ℕ) (answer : Solved) → IsPosed t walk pa leaf → HasPages t leaf pages → AreRows t pages ForLoad loads → AreRows t pages ForStore stores
    → IsPosedProblem t walk pa leaf loads stores draws p → IsAnswer p nodes answer → IsTurnAnswer t pa leaf draws nodes answer
posed_answer t walk pa leaf pages loads stores draws p nodes answer posed h l s is a = turn_answers_are_exact t walk pa leaf pages loads stores draws p nodes answer posed h l s is a

still_extras : (t : Turn) (bias : List Atom) (e : Extra) (biases : List (List Atom)) (p : Problem) (es : List Extra) → IsProblem p → IsExtraOf t bias e p → ArePosedExtras t biases p es → ArePosedExtras t biases (extended e p) es
still_extras t bias e [] p [] shape a h = tt
still_extras t bias e (other ∷ biases) p (d ∷ es) shape a h = (extras_stay t bias other e d p shape a h.0, still_extras t bias e biases p es shape a h.1)
still_extras t bias e [] p (d ∷ es) shape a h = absurd h
still_extras t bias e (other ∷ biases) p [] shape a h = absurd h

abbrev taken_of : List Atom → List (ℕ × Bool) → Taken
taken_of atoms dropped = record { atoms = atoms; dropped = dropped }

-- what is taken in the end
record Ends (t : Turn) (walk : List Entry) (pa : ℕ) (pages : ℕ → Bool) (loads stores : List EntryRow) (draws : List ℕ) (nodes position : ℕ) (biases : List (List Atom)) (kept : Problem) (before : Taken) (final : List (ℕ × Bool)) : Type 0 where
  atoms : List Atom
  judged : AreJudged t pa draws nodes position biases before (record { atoms = atoms; dropped = final })
  posed : IsPosed t walk pa atoms
  inside : HasPages t atoms pages
  is : IsPosedProblem t walk pa atoms loads stores draws kept

all_judged : (t : Turn) (walk : List Entry) (pa : ℕ) (leaf : List Atom) (biases : List (List Atom)) (pages : ℕ → Bool) (loads stores : List EntryRow) (draws : List ℕ) (p kept : Problem) (es : List Extra) (nodes position : ℕ) (dropped final : List (ℕ × Bool))
    → IsPosed t walk pa leaf → AllPlain biases → HasPages t leaf pages → AreRows t pages ForLoad loads → AreRows t pages ForStore stores → IsPosedProblem t walk pa leaf loads stores draws p → ArePosedExtras t biases p es
    → AreTaken nodes position es (record { problem = p; dropped = dropped }) (record { problem = kept; dropped = final })
    → Ends t walk pa pages loads stores draws nodes position biases kept (record { atoms = leaf; dropped = dropped }) final
all_judged t walk pa leaf [] pages loads stores draws p kept [] nodes position dropped final posed plain h l s is extras taken =
    let same : kept ≡ p = ap (λ (k : Kept). k.problem) taken in
    let drops : final ≡ dropped = ap (λ (k : Kept). k.dropped) taken in
    record {
      atoms = leaf;
      judged = ap (λ (ds : List (ℕ × Bool)). taken_of leaf ds) drops;
      posed = posed;
      inside = h;
      is = subst (λ (q : Problem). IsPosedProblem t walk pa leaf loads stores draws q) (sym same) is;
    }
all_judged t walk pa leaf (bias ∷ biases) pages loads stores draws p kept (e ∷ es) nodes position dropped final posed plain h l s is extras (answers.Found x, a, taken) =
    let more : IsPosed t walk pa (leaf ++ bias) = posed_more t walk pa leaf bias posed plain.0 in
    let narrow : HasPages t (leaf ++ bias) pages = pages_more t leaf bias pages h in
    let wide : IsPosedProblem t walk pa (leaf ++ bias) loads stores draws (extended e p) = extras_are_biases t walk pa leaf bias pages loads stores draws p e posed plain.0 h l s is extras.0 in
    let own = posed_answer t walk pa (leaf ++ bias) pages loads stores draws (extended e p) nodes (answers.Found x) more narrow l s wide a in
    let rest = all_judged t walk pa (leaf ++ bias) biases pages loads stores draws (extended e p) kept es nodes (position + 1) dropped final more plain.1 narrow l s wide (still_extras t bias e biases p es is.shape extras.0 extras.1) taken in
    record { atoms = rest.atoms; judged = (answers.Found x, own, rest.judged); posed = rest.posed; inside = rest.inside; is = rest.is }
all_judged t walk pa leaf (bias ∷ biases) pages loads stores draws p kept (e ∷ es) nodes position dropped final posed plain h l s is extras (answers.NoneFits, a, taken) =
    let more : IsPosed t walk pa (leaf ++ bias) = posed_more t walk pa leaf bias posed plain.0 in
    let narrow : HasPages t (leaf ++ bias) pages = pages_more t leaf bias pages h in
    let wide : IsPosedProblem t walk pa (leaf ++ bias) loads stores draws (extended e p) = extras_are_biases t walk pa leaf bias pages loads stores draws p e posed plain.0 h l s is extras.0 in
    let own = posed_answer t walk pa (leaf ++ bias) pages loads stores draws (extended e p) nodes answers.NoneFits more narrow l s wide a in
    let rest = all_judged t walk pa leaf biases pages loads stores draws p kept es nodes (position + 1) (dropped ++ (position, false) ∷ []) final posed plain.1 h l s is extras.1 taken in
    record { atoms = rest.atoms; judged = (answers.NoneFits, own, rest.judged); posed = rest.posed; inside = rest.inside; is = rest.is }
all_judged t walk pa leaf (bias ∷ biases) pages loads stores draws p kept (e ∷ es) nodes position dropped final posed plain h l s is extras (answers.Spent, a, taken) =
    let more : IsPosed t walk pa (leaf ++ bias) = posed_more t walk pa leaf bias posed plain.0 in
    let narrow : HasPages t (leaf ++ bias) pages = pages_more t leaf bias pages h in
    let wide : IsPosedProblem t walk pa (leaf ++ bias) loads stores draws (extended e p) = extras_are_biases t walk pa leaf bias pages loads stores draws p e posed plain.0 h l s is extras.0 in
    let own = posed_answer t walk pa (leaf ++ bias) pages loads stores draws (extended e p) nodes answers.Spent more narrow l s wide a in
    let rest = all_judged t walk pa leaf biases pages loads stores draws p kept es nodes (position + 1) (dropped ++ (position, true) ∷ []) final posed plain.1 h l s is extras.1 taken in
    record { atoms = rest.atoms; judged = (answers.Spent, own, rest.judged); posed = rest.posed; inside = rest.inside; is = rest.is }
all_judged t walk pa leaf [] pages loads stores draws p kept (e ∷ es) nodes position dropped final posed plain h l s is extras taken = absurd extras
all_judged t walk pa leaf (bias ∷ biases) pages loads stores draws p kept [] nodes position dropped final posed plain h l s is extras taken = absurd extras

pub biases_are_kept : BiasesAreKept
biases_are_kept t walk pa leaf biases pages loads stores draws p es nodes answer posed plain h l s is extras (kept, taken, a) =
    let r = all_judged t walk pa leaf biases pages loads stores draws p kept es nodes 0 [] answer.dropped posed plain h l s is extras taken in
    (r.atoms, r.judged, posed_answer t walk pa r.atoms pages loads stores draws kept nodes answer.solved r.posed r.inside l s r.is a)
