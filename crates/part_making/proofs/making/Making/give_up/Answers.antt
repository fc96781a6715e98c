use Rattle.std.proofs.Common.{refl}
use Rattle.part_machine.specs.Whole.{with_dropped}
use Rattle.part_state.specs.State.{here}
use Rattle.part_making.proofs.Steady.{after}
use Rattle.part_making.proofs.making.Making.give_up.Goals as goal

pub invariant_of-self : goal.invariant_of-self
invariant_of-self c = record { fits = after c.args.self.now.template c.args.self.now.part c.drop_wish.new.self (with_dropped c.args.wish (here c.args.self.now.part)) c.drop_wish.result c.args.self.now.fits c.drop_wish.ensures.now c.drop_wish.ensures.earlier c.drop_wish.ensures.refused (record { ram = refl; harts = refl; names = refl }) }
