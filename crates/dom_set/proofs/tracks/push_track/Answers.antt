use Rattle.std.proofs.Common.{◌≡◌, true, List, Option, ap, subst, ◌∙◌}
use Rattle.set_pieces.specs.declared.run.Run.{Run}
use Rattle.dom_set.specs.declared.track.Track.{Track}
use Rattle.set_pieces.specs.Internal.Runs.{in_run, is_in_run}
use Rattle.dom_set.specs.Tracks.{is_on_one}
use Rattle.dom_set.proofs.Tracked.{on_new, on_old}
use Rattle.dom_set.proofs.tracks.push_track.Goals as goal

pub returns-clause-covered : goal.returns-clause-covered
returns-clause-covered c = λ x h.
    let held : in_run c.in-Some.run' x ≡ true = subst (λ (o : Option Run). is_in_run o x ≡ true) c.in-Some.is h in
    let within = c.in-Some-span.ensures.covered x held in
    ap (λ (ts : List Track). is_on_one ts x) c.in_ok-push.ensures.items ∙ on_new _ _ x (c.track_of.ensures x held within.0 within.1)

pub returns-clause-kept : goal.returns-clause-kept
returns-clause-kept c = λ x h. ap (λ (ts : List Track). is_on_one ts x) c.in_ok-push.ensures.items ∙ on_old _ _ x h
