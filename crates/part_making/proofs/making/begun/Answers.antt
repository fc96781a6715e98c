use Rattle.part_making.proofs.Steady.{begins}
use Rattle.part_making.proofs.making.begun.Goals as goal

pub returns-in-Ok : goal.returns-in-Ok
returns-in-Ok c = begins c.args.t.now c.in-Ok.part c.in-Ok.ensures.now c.in-Ok.ensures.earlier
