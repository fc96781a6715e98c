use Rattle.std.proofs.Common.{Some, refl}
use Rattle.std.proofs.lemmas.List.{length-set}
use Rattle.part_machine.specs.Whole.{named}
use Rattle.part_state.specs.State.{here}
use Rattle.part_making.proofs.Steady.{after}
use Rattle.part_making.proofs.making.Making.bind.Goals as goal

pub invariant_of-self : goal.invariant_of-self
invariant_of-self c = record { fits = after c.args.self.now.template c.args.self.now.part c.bind.new.self (named c.args.name c.args.value (here c.args.self.now.part)) c.bind.result c.args.self.now.fits c.bind.ensures.now c.bind.ensures.earlier c.bind.ensures.refused (record { ram = refl; harts = refl; names = length-set c.args.self.now.part.now.names c.args.name (Some c.args.value) }) }
