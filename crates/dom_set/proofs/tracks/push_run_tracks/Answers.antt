use Rattle.std.proofs.Common.{◌≡◌, ◌+◌, true, Option, inl, inr, subst, ◌∙◌}
use Rattle.std.proofs.lemmas.Bool.{or_cases, and_from}
use Rattle.set_pieces.specs.declared.run.Run.{Run}
use Rattle.set_pieces.specs.Counting.{one}
use Rattle.set_pieces.specs.Internal.Patterns.{matches}
use Rattle.set_pieces.specs.Internal.Runs.{in_run, is_in_run}
use Rattle.dom_set.proofs.Tracked.{one_half, run_matched}
use Rattle.dom_set.proofs.tracks.push_run_tracks.Goals as goal

pub returns-in_ok-push_track-in-Some-halves-2-clause-covered : goal.returns-in_ok-push_track-in-Some-halves-2-clause-covered
returns-in_ok-push_track-in-Some-halves-2-clause-covered c = λ x h.
    let run = c.in-Some.run' in
    let held : in_run run x ≡ true = subst (λ (o : Option Run). is_in_run o x ≡ true) c.in-Some.is h in
    let halves : one (matches run.pattern x) ≡ one (matches c.in-Some-halves.first x) + one (matches c.in-Some-halves.second x) =
    rw (c.in-Some-halves.first-is, c.in-Some-halves.second-is) (c.in-Some-halves.ensures.apart x) in
    elim (or_cases (matches c.in-Some-halves.first x) (matches c.in-Some-halves.second x) (one_half _ _ _ halves (run_matched run x held))) [
      | inl a ↦ c.in_ok-push_track-in-Some-halves-2.ensures.kept x (c.in_ok-push_track-in-Some-halves.ensures.covered x (c.matched.ensures x ∙ and_from _ _ held a))
      | inr b ↦ c.in_ok-push_track-in-Some-halves-2.ensures.covered x (c.matched-in-Some-halves.ensures x ∙ and_from _ _ held b)
    ]
