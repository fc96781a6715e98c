use Rattle.std.proofs.Common.{◌&&◌, Bool, sym, ap, ◌∙◌}
use Rattle.set_pieces.specs.Internal.Runs.{in_run}
use Rattle.set_pieces.proofs.Without.{and_no}
use Rattle.set_pieces.proofs.run.Run.missed.Goals as goal

pub returns-in-Some : goal.returns-in-Some
returns-in-Some c = λ x. c.matched.ensures x ∙ ap (λ (b : Bool). in_run c.args.self x && b) (c.in-Some.ensures x)

pub returns-in-None : goal.returns-in-None
returns-in-None c = λ x. sym (and_no (in_run c.args.self x)) ∙ ap (λ (b : Bool). in_run c.args.self x && b) (c.in-None.ensures x)
