use Rattle.std.proofs.Common.{◌/◌, ◌∙◌}
use Rattle.rv_mem.proofs.Runs.{ram_is_there}
use Rattle.rv_mem.proofs.part.PartMem.ram_runs.Goals as goal

pub returns : goal.returns
returns c x small = c.in_ok-runs.ensures x ∙ ram_is_there c.args.self.now (x / 4)
