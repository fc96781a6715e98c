use Rattle.std.proofs.Common.{refl}
use Rattle.part_machine.specs.Whole.{chosen}
use Rattle.part_state.specs.State.{here}
use Rattle.part_making.proofs.Steady.{after}
use Rattle.part_making.proofs.making.Making.choose.Goals as goal

pub invariant_of-self : goal.invariant_of-self
invariant_of-self c = record { fits = after c.args.self.now.template c.args.self.now.part c.take_choice.new.self (chosen c.args.way (here c.args.self.now.part)) c.take_choice.result c.args.self.now.fits c.take_choice.ensures.now c.take_choice.ensures.earlier c.take_choice.ensures.refused (record { ram = refl; harts = refl; names = refl }) }
