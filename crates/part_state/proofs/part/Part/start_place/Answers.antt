use Rattle.std.proofs.lemmas.Result.{on_ok_weaker}
use Rattle.part_machine.specs.Whole.{Whole}
use Rattle.part_state.specs.Meaning.{place_given, CanStart}
use Rattle.part_state.proofs.States.{changed_here, has_hart, told_there}
use Rattle.part_state.proofs.part.Part.start_place.Goals as goal

pub start_place-requires-clause-hart : goal.start_place-requires-clause-hart
start_place-requires-clause-hart c = has_hart c.args.self.now c.self.inside.inner c.self.view_is c.self.invariant c.args.hart c.requires.hart

pub start_place-requires-clause-start : goal.start_place-requires-clause-start
start_place-requires-clause-start c = told_there (λ (w : Whole). CanStart c.args.hart c.args.place c.args.value w) c.args.self.now c.self.inside.inner c.self.view_is c.self.invariant c.requires.start

pub returns-clause-now : goal.returns-clause-now
returns-clause-now c = on_ok_weaker c.start_place.result (changed_here (place_given c.args.hart c.args.place c.args.value) c.args.self.now c.self.inside.inner c.start_place.new.self c.self.view_is c.self.invariant c.start_place.ensures.kept) c.start_place.ensures.now
