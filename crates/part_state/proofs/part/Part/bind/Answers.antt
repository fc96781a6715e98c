use Rattle.std.proofs.lemmas.Result.{on_ok_weaker}
use Rattle.part_state.proofs.States.{changed_here}
use Rattle.part_machine.specs.Whole.{named}
use Rattle.part_state.proofs.part.Part.bind.Goals as goal

pub returns-clause-now : goal.returns-clause-now
returns-clause-now c = on_ok_weaker c.bind.result (changed_here (named c.args.name c.args.value) c.args.self.now c.self.inside.inner c.bind.new.self c.self.view_is c.self.invariant c.bind.ensures.kept) c.bind.ensures.now
