use Rattle.std.proofs.lemmas.Result.{on_ok_weaker}
use Rattle.part_state.proofs.States.{changed_here}
use Rattle.part_machine.specs.Whole.{with_dropped}
use Rattle.part_state.proofs.part.Part.drop_wish.Goals as goal

pub returns-clause-now : goal.returns-clause-now
returns-clause-now c = on_ok_weaker c.drop_wish.result (changed_here (with_dropped c.args.wish) c.args.self.now c.self.inside.inner c.drop_wish.new.self c.self.view_is c.self.invariant c.drop_wish.ensures.kept) c.drop_wish.ensures.now
