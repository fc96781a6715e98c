use Rattle.dom_set.proofs.Tracked.{in_holed}
use Rattle.set_pieces.proofs.Without.{own_run}
use Rattle.dom_set.proofs.tracks.push_tracks.Goals as goal

pub returns-in_ok-push_holed_tracks-in-Some-clause-covered : goal.returns-in_ok-push_holed_tracks-in-Some-clause-covered
returns-in_ok-push_holed_tracks-in-Some-clause-covered c = λ x held.
    let parts = in_holed c.args.p c.in-Some.hole x c.in-Some.is held in
    c.in_ok-push_holed_tracks-in-Some.ensures.covered x parts.0 parts.1

pub returns-in_ok-push_run_tracks-in-None-clause-covered : goal.returns-in_ok-push_run_tracks-in-None-clause-covered
returns-in_ok-push_run_tracks-in-None-clause-covered c = λ x held. c.in_ok-push_run_tracks-in-None.ensures.covered x (own_run c.args.p x held)
