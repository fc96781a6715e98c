use Rattle.part_making.proofs.Steady.{after_step}
use Rattle.part_making.proofs.making.Making.step.Goals as goal

pub invariant_of-self : goal.invariant_of-self
invariant_of-self c = record { fits = after_step c.args.self.now.template c.args.self.now.part c.advance.new.self c.args.hart c.advance.result c.args.self.now.fits c.in-Ready.ensures.0 c.advance.ensures.now c.advance.ensures.earlier c.advance.ensures.refused }
