use Rattle.std.proofs.Common.{◌∙◌}
use Rattle.tpl_admit.specs.Truth.{trace_touches}
use Rattle.leaf_stand.proofs.Blocks.{any_traces}
use Rattle.leaf_stand.proofs.shared.is_touched.Goals as goal

pub returns : goal.returns
returns c = c.any_touches.ensures ∙ any_traces (trace_touches c.args.addr) c.args.others.now
