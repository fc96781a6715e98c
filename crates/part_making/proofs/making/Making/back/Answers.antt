use Rattle.std.proofs.Common.{◌+◌}
use Rattle.part_making.proofs.Steady.{returned}
use Rattle.part_making.proofs.making.Making.back.Goals as goal

pub invariant_of-self : goal.invariant_of-self
invariant_of-self c = record { fits = returned c.args.self.now.template c.args.self.now.part c.rollback.new.self (c.args.mark + 1) c.args.self.now.fits c.rollback.ensures.back }
