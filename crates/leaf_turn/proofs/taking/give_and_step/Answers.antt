use Rattle.std.proofs.Common.{ap}
use Rattle.part_machine.specs.Whole.{Bare}
use Rattle.part_state.specs.State.{here}
use Rattle.leaf_link.specs.Answers.{values_in}
use Rattle.leaf_turn.proofs.Giving.{ready, registers_before, still, taken_by}
use Rattle.leaf_turn.proofs.Keeping.{kept_more}
use Rattle.leaf_turn.proofs.taking.give_and_step.Goals as goal

pub advance-requires-clause-ready : goal.advance-requires-clause-ready
advance-requires-clause-ready c = (ready c.args.hart c.args.fetch (values_in c.args.x.now) (here c.args.part.now) (here c.give.new.part) c.played_steps_are_next.ensures c.is_test.ensures c.requires.hart c.requires.playable c.in_ok-give.ensures.given).ready

pub advance-requires-clause-clear : goal.advance-requires-clause-clear
advance-requires-clause-clear c = (ready c.args.hart c.args.fetch (values_in c.args.x.now) (here c.args.part.now) (here c.give.new.part) c.played_steps_are_next.ensures c.is_test.ensures c.requires.hart c.requires.playable c.in_ok-give.ensures.given).clear

pub returns-clause-taken : goal.returns-clause-taken
returns-clause-taken c =
    taken_by c.args.hart c.args.fetch (values_in c.args.x.now) c.in_ok-record.record (here c.args.part.now) (here c.give.new.part) (here c.advance.new.self) c.played_steps_are_next.ensures c.given_places_are_known.ensures.fixed c.is_test.ensures
    c.requires.hart c.requires.playable c.in_ok-give.ensures.given c.in_ok-record.ensures.now c.in_ok-record.ensures.record

pub returns-clause-before : goal.returns-clause-before
returns-clause-before c =
    registers_before c.args.hart (values_in c.args.x.now) (here c.args.part.now) (here c.give.new.part) _ c.given_places_are_known.ensures.known c.given_places_are_known.ensures.tests c.given_places_are_known.ensures.others
    c.is_test.ensures c.requires.hart c.in_ok-give.ensures.given (ap (λ (b : Bare). b.regs) c.hart.ensures)

pub returns-clause-kept : goal.returns-clause-kept
returns-clause-kept c = kept_more c.args.part.now c.give.new.part c.advance.new.self c.in_ok-give.ensures.kept c.in_ok-record.ensures.earlier

pub returns-clause-still : goal.returns-clause-still
returns-clause-still c =
    still c.args.hart (values_in c.args.x.now) c.in_ok-record.record (here c.args.part.now) (here c.advance.new.self) c.given_places_are_known.ensures.others
    (taken_by c.args.hart c.args.fetch (values_in c.args.x.now) c.in_ok-record.record (here c.args.part.now) (here c.give.new.part) (here c.advance.new.self) c.played_steps_are_next.ensures c.given_places_are_known.ensures.fixed c.is_test.ensures
    c.requires.hart c.requires.playable c.in_ok-give.ensures.given c.in_ok-record.ensures.now c.in_ok-record.ensures.record)
