use Rattle.std.proofs.Common.{sym, ◌∙◌}
use Rattle.row_parts.proofs.Regions.{touching, not_true}
use Rattle.row_parts.proofs.ram_part.is_outside.Goals as goal

pub returns : goal.returns
returns c = λ h a from to. touching c.args.regions.now c.args.low c.args.end a c.requires (sym c.is_touched.ensures ∙ not_true c.is_touched.result h) from to
