use Rattle.std.proofs.lemmas.Result.{on_ok_weaker}
use Rattle.part_state.proofs.States.{changed_here}
use Rattle.part_machine.specs.Whole.{chosen}
use Rattle.part_state.proofs.part.Part.take_choice.Goals as goal

pub returns-clause-now : goal.returns-clause-now
returns-clause-now c = on_ok_weaker c.take_choice.result (changed_here (chosen c.args.way) c.args.self.now c.self.inside.inner c.take_choice.new.self c.self.view_is c.self.invariant c.take_choice.ensures.kept) c.take_choice.ensures.now
