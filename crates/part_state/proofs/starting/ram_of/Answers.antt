use Rattle.std.proofs.Common.{sym, subst}
use Rattle.rv_mem.specs.Ram.{AreWhole}
use Rattle.given_start.proofs.Aligned.{are_whole}
use Rattle.part_state.proofs.starting.ram_of.Goals as goal

pub new-requires : goal.new-requires
new-requires c = subst AreWhole (sym c.in_ok-region_ends.ensures) (are_whole c.args.ram.now c.requires)
