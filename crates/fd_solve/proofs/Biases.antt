-- Biases, taken one after another.
use Rattle.std.proofs.Common.{◌≡◌, ℕ, zero, suc, ◌+◌, ◌<◌, ◌≤◌, List, length, drop, get_or, Bool, true, false, [], ◌∷◌, ◌++◌, ◌-◌, All, Option, Some, None, refl, sym, ap, ◌∙◌, subst, le_trans, length-append, length-set, arith}
use Rattle.std.specs.Prelude.{slice_set}
use Rattle.std.proofs.lemmas.Option.{same_Some}
use Rattle.fd_prob.specs.declared.problem.Extra.{Extra}
use Rattle.fd_prob.specs.declared.problem.Problem.{Problem}
use Rattle.fd_solve.specs.declared.answers.Solved.TheVariants as answers
use Rattle.fd_solve.specs.declared.known.Known.{Known}
use Rattle.fd_solve.specs.declared.known.Known.TheVariants.{Answer, Fits}
use Rattle.fd_prob.specs.Extras.{extended}
use Rattle.fd_prob.specs.Fitting.{IsProblem}
use Rattle.fd_prob.specs.Spaces.{space}
use Rattle.fd_solve.specs.declared.leaf.Taken.{Taken}
use Rattle.fd_solve.specs.Answers.{AreTaken, Kept, NothingFits}
use Rattle.fd_solve.specs.Internal.Known.{IsKnown, dropping, has_none, was_spent}
use Rattle.fd_solve.specs.Internal.Marks.{AreSound, HasFirstsOf, base_of, with_marked}
use Rattle.fd_solve.specs.declared.ready.Ready.{Ready}
use Rattle.fd_solve.specs.Internal.Ready.{IsReady}
use Rattle.fd_solve.specs.Internal.Shrinking.{shrinks}
use Rattle.fd_solve.specs.Internal.Taking.{IsTakenBy, IsTold, kept_of}
use Rattle.fd_solve.proofs.Existing.{some_least}
use Rattle.fd_solve.proofs.FirstMarks.{ready_after}
use Rattle.case_search.proofs.Lists.{drop_here, drop_past}
use Rattle.fd_solve.proofs.Marking.{many_marked, marked_false, marked_true, whole_marked}
use Rattle.fd_solve.proofs.FittingMarks.{nothing_more}
use Rattle.fd_solve.proofs.Shrinking.{space_shrinks}

module _ (nodes n : ℕ) (biases : List Extra) where
  -- the next bias, and then the rest
  pub next_bias : (e : Extra) → n < length biases → e ≡ get_or biases n e → (before mid : Kept) → IsTakenBy nodes n e before mid → (after : Kept) → AreTaken nodes (n + 1) (drop (n + 1) biases) mid after → AreTaken nodes n (drop n biases) before after
  next_bias e lt here before mid taken after rest =
      let P : List Extra → Type 0 = λ es. AreTaken nodes n es before after in
      let Q : Kept → Type 0 = λ k. AreTaken nodes (n + 1) (drop (n + 1) biases) k after in
      subst P (sym (drop_here biases n e lt here)) (taken.0, taken.1, subst Q taken.2 rest)

  -- no bias is left
  pub none_left : length biases ≤ n → (kept : Kept) → AreTaken nodes n (drop n biases) kept kept
  none_left end kept = let P : List Extra → Type 0 = λ es. AreTaken nodes n es kept kept in subst P (sym (drop_past biases n end)) refl

abbrev kept_as : Problem → List (ℕ × Bool) → Kept
kept_as p dropped = record { problem = p; dropped = dropped }

kept_same : (p q : Problem) (d f : List (ℕ × Bool)) → p ≡ q → d ≡ f → kept_as p d ≡ kept_as q f
kept_same p q d f same dropped = ap (λ (r : Problem). kept_as r d) same ∙ ap (kept_as q) dropped

-- where it is known that nothing fits
none_fits : (p : Problem) (nodes : ℕ) (known : Known) → has_none known ≡ true → IsKnown p nodes known → NothingFits p
none_fits p nodes (Answer (answers.Found x)) none is = absurd (cc none)
none_fits p nodes (Answer answers.NoneFits) none is = is.1
none_fits p nodes (Answer answers.Spent) none is = absurd (cc none)
none_fits p nodes (Fits x) none is = absurd (cc none)

-- where it is not known that the budget was spent, the space is within it
known_within : (p : Problem) (nodes : ℕ) (known : Known) → was_spent known ≡ false → IsKnown p nodes known → space p ≤ nodes
known_within p nodes (Answer (answers.Found x)) within is = is.0
known_within p nodes (Answer answers.NoneFits) within is = is.0
known_within p nodes (Answer answers.Spent) within is = absurd (cc within)
known_within p nodes (Fits x) within is = is.0

-- a bias is taken by what is known of the problem with it; where something fits, the answer is the least that does
module _ (whole : Problem) (nodes position : ℕ) (e : Extra) (dropped : List (ℕ × Bool)) where
  one_kept : (known : Known) → dropping known ≡ None → IsKnown (extended e whole) nodes known → IsTakenBy nodes position e (kept_as whole dropped) (kept_as (extended e whole) dropped)
  one_kept (Answer (answers.Found x)) kept is = (answers.Found x, is, refl)
  one_kept (Answer answers.NoneFits) kept is = absurd (cc kept)
  one_kept (Answer answers.Spent) kept is = absurd (cc kept)
  one_kept (Fits x) kept is = let least = some_least (extended e whole) x is.1 in (answers.Found least.0, (is.0, least.1), refl)

  one_dropped : (known : Known) (spent : Bool) → dropping known ≡ Some spent → IsKnown (extended e whole) nodes known → IsTakenBy nodes position e (kept_as whole dropped) (kept_as whole (dropped ++ (position, spent) ∷ []))
  one_dropped (Answer (answers.Found x)) spent kept is = absurd (cc kept)
  one_dropped (Answer answers.NoneFits) spent kept is = (answers.NoneFits, is, ap (λ (b : Bool). kept_as whole (dropped ++ (position, b) ∷ [])) (sym (same_Some false spent kept)))
  one_dropped (Answer answers.Spent) spent kept is = (answers.Spent, is, ap (λ (b : Bool). kept_as whole (dropped ++ (position, b) ∷ [])) (sym (same_Some true spent kept)))
  one_dropped (Fits x) spent kept is = absurd (cc kept)

set_at : (marks : List Bool) (n : ℕ) → n ≡ length marks → slice_set (marks ++ true ∷ []) n false ≡ marks ++ false ∷ []
set_at [] zero is = refl
set_at [] (suc n) is = absurd (omega (arith, is))
set_at (m ∷ marks) zero is = absurd (omega (arith, is))
set_at (m ∷ marks) (suc n) is = ap (λ (ms : List Bool). m ∷ ms) (set_at marks n (omega (arith, is)))

set_last : (marks : List Bool) → slice_set (marks ++ true ∷ []) (length (marks ++ true ∷ []) - 1) false ≡ marks ++ false ∷ []
set_last marks = set_at marks (length (marks ++ true ∷ []) - 1) (omega (arith, length-append marks (true ∷ [])))

module _ (p : Problem) (biases : List Extra) (nodes : ℕ) (taken : Taken) where
  abbrev whole : Problem
  whole = with_marked taken.marks.items biases p

  -- the problem with the kept biases and what is known of it are right where an answer is looked for
  pub sound_so_far : (base : Problem) → IsProblem p → All (λ f. length f.cases ≡ length p.cases) biases → length taken.marks.items ≤ length biases → IsTold p biases nodes taken → base ≡ base_of taken.firsts p → AreSound p biases taken.marks.items base
  sound_so_far base problem entries room told base_is = record {
    problem = problem;
    entries = entries;
    room = room;
    whole = subst IsProblem (sym base_is) told.base;
    firsts = subst (HasFirstsOf whole) (sym base_is) told.firsts;
  }

  whole_same : (after : List Bool) (new : Taken) → after ≡ taken.marks.items ++ true ∷ [] → new.marks.items ≡ slice_set after (length after - 1) false → with_marked new.marks.items biases p ≡ whole
  whole_same after new is marks_are =
      ap (λ (ms : List Bool). with_marked ms biases p) (marks_are ∙ ap (λ (ms : List Bool). slice_set ms (length ms - 1) false) is ∙ set_last taken.marks.items)
      ∙ marked_false taken.marks.items biases p

  place_is : (after : List Bool) → after ≡ taken.marks.items ++ true ∷ [] → length after - 1 ≡ length taken.marks.items
  place_is after is = omega (arith, ap length is, length-append taken.marks.items (true ∷ []))

  pub told_dropped : (after : List Bool) (new : Taken) → after ≡ taken.marks.items ++ true ∷ [] → new.marks.items ≡ slice_set after (length after - 1) false → new.firsts ≡ taken.firsts → new.known ≡ taken.known → (ready : Ready) → new.ready ≡ ready → IsReady p biases after (length after - 1) ready → IsTold p biases nodes taken → IsTold p biases nodes new
  told_dropped after new is marks_are firsts_are known_is ready ready_are ready_is told =
      let last : new.marks.items ≡ taken.marks.items ++ false ∷ [] = marks_are ∙ ap (λ (ms : List Bool). slice_set ms (length ms - 1) false) is ∙ set_last taken.marks.items in
      let same : with_marked new.marks.items biases p ≡ whole = whole_same after new is marks_are in
      record {
        base = subst (λ (o : Option Problem). IsProblem (base_of o p)) (sym firsts_are) told.base;
        firsts = subst (λ (q : Problem). HasFirstsOf q (base_of new.firsts p)) (sym same) (subst (λ (o : Option Problem). HasFirstsOf whole (base_of o p)) (sym firsts_are) told.firsts);
        known = subst (λ (q : Problem). IsKnown q nodes new.known) (sym same) (subst (IsKnown whole nodes) (sym known_is) told.known);
        ready = subst (IsReady p biases new.marks.items (length new.marks.items)) (sym ready_are) (ready_after p biases taken.marks.items after new.marks.items true false ready is last ready_is);
      }

  pub count_dropped : (after : List Bool) (new : Taken) → after ≡ taken.marks.items ++ true ∷ [] → new.marks.items ≡ slice_set after (length after - 1) false → length new.marks.items ≡ length taken.marks.items + 1
  count_dropped after new is marks_are = omega (arith, ap length marks_are, length-set after (length after - 1) false, ap length is, length-append taken.marks.items (true ∷ []))

  module _ (e : Extra) where
    module _ (entries : All (λ f. length f.cases ≡ length p.cases) biases) (more : length taken.marks.items < length biases) (next : e ≡ get_or biases (length taken.marks.items) e) where
      entry : length e.cases ≡ length p.cases
      entry = subst (λ (f : Extra). length f.cases ≡ length p.cases) (sym next) (entries (length taken.marks.items) e more)

      whole_after : (after : List Bool) → after ≡ taken.marks.items ++ true ∷ [] → with_marked after biases p ≡ extended e whole
      whole_after after is = ap (λ (ms : List Bool). with_marked ms biases p) is ∙ marked_true taken.marks.items biases p e more next

      pub sound_next : (after : List Bool) (base made : Problem) → IsProblem p → IsTold p biases nodes taken → base ≡ base_of taken.firsts p → IsProblem made
          → ((q : Problem) → HasFirstsOf q base → length e.cases ≡ length q.cases → HasFirstsOf (extended e q) made) → after ≡ taken.marks.items ++ true ∷ [] → AreSound p biases after made
      sound_next after base made problem told base_is is_problem firsts is = record {
        problem = problem;
        entries = entries;
        room = omega (arith, ap length is, length-append taken.marks.items (true ∷ []), more);
        whole = is_problem;
        firsts = subst (λ (q : Problem). HasFirstsOf q made) (sym (whole_after after is))
            (firsts whole (subst (HasFirstsOf whole) (sym base_is) told.firsts) (entry ∙ sym (many_marked taken.marks.items biases p (length p.cases) entries refl)));
      }

      -- where nothing fits without this bias
      pub within_next : (after : List Bool) → IsTold p biases nodes taken → after ≡ taken.marks.items ++ true ∷ [] → shrinks e ≡ true → was_spent taken.known ≡ false → space (with_marked after biases p) ≤ nodes
      within_next after told is small within =
          let entered : length e.cases ≡ length whole.cases = entry ∙ sym (many_marked taken.marks.items biases p (length p.cases) entries refl) in
          subst (λ (q : Problem). space q ≤ nodes) (sym (whole_after after is)) (le_trans (space_shrinks e small whole entered) (known_within whole nodes taken.known within told.known))

      pub none_next : (after : List Bool) → IsProblem p → IsTold p biases nodes taken → after ≡ taken.marks.items ++ true ∷ [] → has_none taken.known ≡ true → NothingFits (with_marked after biases p)
      none_next after problem told is none =
          subst NothingFits (sym (whole_after after is)) (nothing_more e whole (whole_marked taken.marks.items biases p problem) (none_fits whole nodes taken.known none told.known))

      module _ (after : List Bool) (is : after ≡ taken.marks.items ++ true ∷ []) (known : Known) (known_is : IsKnown (with_marked after biases p) nodes known) where
        known_next : IsKnown (extended e whole) nodes known
        known_next = subst (λ (q : Problem). IsKnown q nodes known) (whole_after after is) known_is

        pub taken_kept : (new : Taken) → dropping known ≡ None → new.marks.items ≡ after → new.dropped ≡ taken.dropped → IsTakenBy nodes (length taken.marks.items) e (kept_of p biases taken) (kept_of p biases new)
        taken_kept new kept marks_are dropped_are =
            subst (λ (k : Kept). IsTakenBy nodes (length taken.marks.items) e (kept_of p biases taken) k)
            (sym (kept_same (with_marked new.marks.items biases p) (extended e whole) new.dropped taken.dropped (ap (λ (ms : List Bool). with_marked ms biases p) marks_are ∙ whole_after after is) dropped_are))
            (one_kept whole nodes (length taken.marks.items) e taken.dropped known kept known_next)

        -- the last mark is taken away again
        pub taken_dropped : (spent : Bool) (new : Taken) → dropping known ≡ Some spent → new.marks.items ≡ slice_set after (length after - 1) false → new.dropped ≡ taken.dropped ++ (length after - 1, spent) ∷ [] → IsTakenBy nodes (length taken.marks.items) e (kept_of p biases taken) (kept_of p biases new)
        taken_dropped spent new kept marks_are dropped_are =
            subst (λ (k : Kept). IsTakenBy nodes (length taken.marks.items) e (kept_of p biases taken) k)
            (sym (kept_same (with_marked new.marks.items biases p) whole new.dropped (taken.dropped ++ (length taken.marks.items, spent) ∷ []) (whole_same after new is marks_are) (dropped_are ∙ ap (λ (n : ℕ). taken.dropped ++ (n, spent) ∷ []) (place_is after is))))
            (one_dropped whole nodes (length taken.marks.items) e taken.dropped known spent kept known_next)

-- with the first cases that were made and what was found out
pub told_kept : (p : Problem) (biases : List Extra) (nodes : ℕ) (after : List Bool) (made : Problem) (known : Known) (new : Taken) → AreSound p biases after made → IsKnown (with_marked after biases p) nodes known → new.marks.items ≡ after → new.firsts ≡ Some made → new.known ≡ known → IsReady p biases after (length after) new.ready → IsTold p biases nodes new
told_kept p biases nodes after made known new sound known_is marks_are firsts_are is ready =
    let same : with_marked new.marks.items biases p ≡ with_marked after biases p = ap (λ (ms : List Bool). with_marked ms biases p) marks_are in
    let base : base_of new.firsts p ≡ made = ap (λ (o : Option Problem). base_of o p) firsts_are in
    record {
      base = subst IsProblem (sym base) sound.whole;
      firsts = subst (λ (q : Problem). HasFirstsOf q (base_of new.firsts p)) (sym same) (subst (HasFirstsOf (with_marked after biases p)) (sym base) sound.firsts);
      known = subst (λ (q : Problem). IsKnown q nodes new.known) (sym same) (subst (IsKnown (with_marked after biases p) nodes) (sym is) known_is);
      ready = subst (λ (ms : List Bool). IsReady p biases ms (length ms) new.ready) (sym marks_are) ready;
    }
