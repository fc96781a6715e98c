-- What the turn of a `fault` leaf that is taken does to a test, and that its leaf admits the step.
use Rattle.std.proofs.Common.{◌≡◌, ℕ, ◌+◌, ◌<◌, ◌≤◌, ◌^◌, ◌⊎◌, ◌&&◌, true, List, [], length, Option, Some, None, sym, ap, ◌∙◌, subst, inl, arith}
use Rattle.std.specs.Prelude.{slice_index_or}
use Rattle.std.proofs.lemmas.Bool.{and_from}
use Rattle.dom_set.specs.Elements.{is_in}
use Rattle.rv_script.specs.declared.place.Place.TheVariants.{Word}
use Rattle.rv_script.specs.Folds.{Answer, Answer.Does, Answer.Missing, Answer.Nowhere, Entry}
use Rattle.rv_hart.specs.declared.record.Change.{Change}
use Rattle.rv_hart.specs.declared.record.Outcome.{Outcome}
use Rattle.rv_hart.specs.declared.record.Record.{Record}
use Rattle.rv_hart.specs.Changes.{outcome_of}
use Rattle.rv_hart.specs.Machine.{fetch_view}
use Rattle.sv_walk.specs.Translation.{root_address}
use Rattle.tpl_admit.specs.Admitting.{is_unfetched}
use Rattle.tpl_admit.specs.Variables.{outcome_in}
use Rattle.part_machine.specs.Whole.{Whole, records_of}
use Rattle.fd_prob.specs.declared.problem.Assignment.{Assignment}
use Rattle.fd_solve.specs.declared.answers.Solved.{Solved}
use Rattle.fd_solve.specs.declared.answers.Solved.TheVariants as answers
use Rattle.leaf_link.specs.Answers.{values_in}
use Rattle.leaf_link.specs.FetchAnswers.{IsFaultAnswer}
use Rattle.leaf_link.specs.FetchPlacing.{FaultWordsAreTwo, FaultsAreUnfetched, root_word}
use Rattle.leaf_link.specs.Placing.{AreTwoWords}
use Rattle.leaf_link.specs.Turns.{Turn}
use Rattle.leaf_turn.specs.Answers.{new_at}
use Rattle.gen_search.specs.Search.{Turned.Taken}
use Rattle.gen_turn.specs.Drafts.{Drafted, at_test, turn_of}
use Rattle.gen_turn.specs.Grounds.{IsGround}
use Rattle.gen_turn.specs.Turns.{EndsAs, IsFailed, IsLeafTaken}
use Rattle.gen_turn.proofs.Listing.{place_of_step}
use Rattle.gen_turn.proofs.StepDone.{AreListedBehind, IsStepDone, dropped_after, names_after, record_done, same_taken, step_done}
use Rattle.gen_turn.proofs.WordCounts.{aligned_word, two_words, words_in}

-- the step was made, and its fetch failed with a listed cause
pub record IsFaultDone (sets : ℕ → List ℕ) (k : ℕ) (causes : List ℕ) (old after : Whole) : Type 0 where
  pub step : IsStepDone sets k [] old after
  pub fails : (is_unfetched step.record_is.outcome && is_in causes (outcome_in step.record_is.outcome)) ≡ true

module _ (are_unfetched : FaultsAreUnfetched) (words_are_few : FaultWordsAreTwo) (d : Drafted) (k : ℕ) (g : IsGround d k) (causes draws : List ℕ) where
  module _ (x : Assignment) (answer : IsFaultAnswer (turn_of d [] k) (is_in causes) draws d.nodes (answers.Found x)) (after : Whole) (l : IsLeafTaken k [] [] (values_in x) d.now after) where
    abbrev t : Turn
    t = turn_of d [] k

    same_change : l.taken.change ≡ answer.1.is.change
    same_change = ap (λ (a : Answer Entry Change). elim a [ Does xs c ↦ c | Missing place ↦ l.taken.change | Nowhere ↦ l.taken.change ]) (sym l.taken.plays ∙ answer.1.is.plays)

    outcome_is : l.done.outcome ≡ outcome_of t.fixed answer.1.is.change.control
    outcome_is = ap (λ (r : Record). r.outcome) l.taken.record_is ∙ ap (λ (c : Change). outcome_of t.fixed c.control) same_change

    fails : (is_unfetched l.done.outcome && is_in causes (outcome_in l.done.outcome)) ≡ true
    fails =
        ap (λ (o : Outcome). is_unfetched o && is_in causes (outcome_in o)) outcome_is
        ∙ and_from _ _ (are_unfetched t (is_in causes) (new_at k d.now (values_in x)) answer.1.is) answer.1.is.meets.cause

    -- the root entry and the second one alone are new words
    few_words : words_in l.taken.places.places ≤ 4
    few_words =
        let two : AreTwoWords (new_at k d.now (values_in x)) (root_word t) = words_are_few t (is_in causes) (new_at k d.now (values_in x)) answer.1.is in
        let both = two_words k (root_word t) two.other l.taken.places.places d.now g.test g.hart (aligned_word (root_address (fetch_view t.fixed) t.fixed.pc)) two.aligned l.taken.places.can (λ a u h. two.either a u (sym (l.taken.places.listed (Word a)) ∙ h)) in
        omega (arith, both)

    nothing_listed : AreListedBehind k d.now after.dropped
    nothing_listed harts few small = (
      [],
      dropped_after k [] [] (values_in x) d.now after g.test g.hart g.words l,
      next (place_of_step k (length (records_of k d.now))) (place_of_step k (length (records_of k d.now) + 1)) (next_place k (length (records_of k d.now))),
    )
      where
        next_place : (k n : ℕ) → place_of_step k (n + 1) ≡ place_of_step k n + 32
        next_place k n = omega arith

        next : (p q : ℕ) → q ≡ p + 32 → p ≤ q
        next p q is = omega (arith, is)

    names_stay : (sets : ℕ → List ℕ) (n v : ℕ) → slice_index_or after.names n None ≡ Some v → (slice_index_or d.now.names n None ≡ Some v) ⊎ ((v < 2 ^ 32) × (is_in (sets n) v ≡ true))
    names_stay sets n v h = inl (ap (λ (ns : List (Option ℕ)). slice_index_or ns n None) (sym (names_after k [] [] (values_in x) d.now after g.test g.hart g.words l)) ∙ h)

    taken_done : (sets : ℕ → List ℕ) → IsFaultDone sets k causes d.now after
    taken_done sets = record {
      step = step_done k [] [] (values_in x) d.now after g.test g.hart g.words l sets few_words (names_stay sets) nothing_listed;
      fails =
          ap (λ (r : Record). is_unfetched r.outcome && is_in causes (outcome_in r.outcome)) (record_done k [] [] (values_in x) d.now after g.test g.hart g.words l sets few_words (names_stay sets) nothing_listed)
          ∙ fails;
    }

  pub fault_done : (sets : ℕ → List ℕ) (e : Drafted) → IsFailed d k causes draws (Taken e) → IsFaultDone sets k causes d.now e.now
  fault_done sets e failed = go failed.fetch failed.is failed.ends
    where
      go : (s : Solved) → IsFaultAnswer (turn_of d [] k) (is_in causes) draws d.nodes s → EndsAs d k [] [] s (Taken e) → IsFaultDone sets k causes d.now e.now
      go (answers.Found x) is ends =
          subst (IsFaultDone sets k causes d.now) (sym (ap (λ (f : Drafted). f.now) (same_taken e (at_test d ends.0) ends.2))) (taken_done x is ends.0 ends.1 sets)
      go answers.NoneFits is ends = absurd (cc ends)
      go answers.Spent is ends = absurd (cc ends)
