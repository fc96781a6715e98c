-- The values of an answer are taken in one way.
use Rattle.std.proofs.Common.{◌≡◌, ℕ, List, [], ◌∷◌, refl, sym, ap, ◌∙◌, subst}
use Rattle.std.proofs.lemmas.Option.{same_Some}
use Rattle.rv_script.specs.declared.access.Access.{Access}
use Rattle.rv_script.specs.declared.place.Place.{Place}
use Rattle.rv_script.specs.Folds.{Answer, Answer.Does, Answer.Missing as Lacks, Entry, Known}
use Rattle.rv_hart.specs.declared.record.Change.{Change}
use Rattle.rv_hart.specs.Whole.{record_of}
use Rattle.part_machine.specs.Whole.{Whole, fixed_in, hart_of, next_of, stepped}
use Rattle.part_state.specs.Meaning.{place_given}
use Rattle.leaf_link.specs.Candidates.{accesses_in}
use Rattle.turn_laws.specs.Given.{all_given}
use Rattle.turn_laws.specs.Laws.{PlayedStepsAreNext}
use Rattle.leaf_turn.specs.Answers.{AreAsked, TakingsAreOne, new_at}
use Rattle.leaf_turn.proofs.Giving.{ready, same_change}

abbrev Next : Type 0
Next = Answer Access Change

same_lacked : (p q : Place) → (let a : Next = Lacks p in a) ≡ Lacks q → p ≡ q
same_lacked p q e = cc e

done_lacks : (xs : List Access) (c : Change) (p : Place) → (let a : Next = Does xs c in a) ≡ Lacks p → ⊥
done_lacks xs c p e = absurd (cc e)

same_log : (a b : List Entry) (c d : Change) → (let r : Answer Entry Change = Does a c in r) ≡ Does b d → a ≡ b
same_log a b c d e = cc e

-- places that are asked for one after another until the step is done are the same
one_list : (k : ℕ) (new : Known) (es fs : List (Place × ℕ)) (w : Whole) (xs ys : List Access) (c d : Change) → AreAsked k new es w → AreAsked k new fs w
    → next_of k (all_given k es w) ≡ Does xs c → next_of k (all_given k fs w) ≡ Does ys d → es ≡ fs
one_list k new [] [] w xs ys c d a b done other = refl
one_list k new [] (f ∷ fs) w xs ys c d a b done other = absurd (done_lacks xs c f.0 (sym done ∙ b.0))
one_list k new (e ∷ es) [] w xs ys c d a b done other = absurd (done_lacks ys d e.0 (sym other ∙ a.0))
one_list k new (e ∷ es) (f ∷ fs) w xs ys c d a b done other =
    let place : e.0 ≡ f.0 = same_lacked e.0 f.0 (sym a.0 ∙ b.0) in
    let value : e.1 ≡ f.1 = same_Some e.1 f.1 (sym a.1 ∙ ap new place ∙ b.1) in
    let head : e ≡ f = (λ i. (place i, value i)) in
    let rest : es ≡ fs = one_list k new es fs (place_given k e.0 e.1 w) xs ys c d a.2
    (subst (λ (g : Place × ℕ). AreAsked k new fs (place_given k g.0 g.1 w)) (sym head) b.2) done
    (subst (λ (g : Place × ℕ). next_of k (all_given k fs (place_given k g.0 g.1 w)) ≡ Does ys d) (sym head) other) in
    λ i. head i ∷ rest i

pub one_taking : PlayedStepsAreNext → TakingsAreOne
one_taking steps k fetch x r s old new other test l f t u =
    let first = ready k fetch x old t.given steps test l f t.places in
    let second = ready k fetch x old u.given steps test l f u.places in
    let lists : t.places.places ≡ u.places.places = one_list k (new_at k old x) t.places.places u.places.places old _ _ _ _ t.places.asked u.places.asked
    (ap (λ (w : Whole). next_of k w) (sym t.places.is) ∙ first.next) (ap (λ (w : Whole). next_of k w) (sym u.places.is) ∙ second.next) in
    let given : t.given ≡ u.given = t.places.is ∙ ap (λ (es : List (Place × ℕ)). all_given k es old) lists ∙ sym u.places.is in
    let log : t.log ≡ u.log = same_log t.log u.log t.change u.change (sym t.plays ∙ u.plays) in
    let change : t.change ≡ u.change = same_change t.log u.log t.change u.change (sym t.plays ∙ u.plays) in (
      t.record_is ∙ (λ i. record_of (fixed_in (hart_of k old) old.memory) (accesses_in (log i)) (change i)) ∙ sym u.record_is,
      t.now ∙ (λ i. stepped k (accesses_in (log i)) (change i) (given i)) ∙ sym u.now,
    )
