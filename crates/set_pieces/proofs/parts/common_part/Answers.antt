use Rattle.std.proofs.Common.{◌&&◌, Option, sym, ap, ◌∙◌}
use Rattle.set_pieces.specs.declared.run.Run.{Run}
use Rattle.set_pieces.specs.Internal.Pieces.{in_piece}
use Rattle.set_pieces.specs.Internal.Runs.{is_in_run}
use Rattle.set_pieces.proofs.Without.{and_no}
use Rattle.set_pieces.proofs.parts.common_part.Goals as goal

pub returns-in-None : goal.returns-in-None
returns-in-None c = λ x. sym (ap (λ (o : Option Run). in_piece c.args.p x && is_in_run o x) c.in-None.is ∙ and_no (in_piece c.args.p x))
