use Rattle.std.proofs.Common.{List, sym, subst}
use Rattle.gen_search.specs.Wholes.{answered}
use Rattle.part_state.specs.State.{here}
use Rattle.tpl_ast.specs.declared.template.Item.{Item}
use Rattle.gen_turn.specs.Drafts.{drafted}
use Rattle.tpl_ast.specs.declared.template.Wish.{Wish}
use Rattle.gen_turn.specs.Turns.{IsDone, IsTurnedTo}
use Rattle.gen_turn.proofs.Drafting.{answer_shown, still_allowed, still_there}
use Rattle.gen_turn.proofs.draft.DraftPartialTest.turn.Goals as goal

pub returns-in-Ok-clause-answer : goal.returns-in-Ok-clause-answer
returns-in-Ok-clause-answer c =
    let t = c.args.self.now.template.now in
    let nodes = c.args.self.now.nodes in (
      answered c.in-Ok.turn (drafted t nodes (here c.turn_leaf.new.part)),
      subst (λ (i : Item). IsTurnedTo (drafted t nodes (here c.args.self.now.part)) c.args.hart i c.args.draws.now (answered c.in-Ok.turn (drafted t nodes (here c.turn_leaf.new.part)))) (sym c.in-Leaf.is)
          (subst (λ (ws : List Wish). IsDone (drafted t nodes (here c.args.self.now.part)) c.args.hart ws c.args.draws.now (answered c.in-Ok.turn (drafted t nodes (here c.turn_leaf.new.part)))) c.deref.ensures.value c.in-Ok.ensures.turned),
      answer_shown t nodes c.in-Ok.turn c.turn_leaf.new.part c.is_told.ensures,
    )

pub returns-in-Ok-clause-kept : goal.returns-in-Ok-clause-kept
returns-in-Ok-clause-kept c = still_there c.args.self.now.template.now c.args.self.now.nodes c.args.self.now.part c.turn_leaf.new.part c.in-Ok.ensures.kept

pub returns-in-Ok-clause-still : goal.returns-in-Ok-clause-still
returns-in-Ok-clause-still c = still_allowed c.args.self.now.template.now c.args.self.now.nodes c.args.self.now.part.now c.turn_leaf.new.part.now c.in-Ok.ensures.ground

pub returns-in-Ok-turn_fault-clause-answer : goal.returns-in-Ok-turn_fault-clause-answer
returns-in-Ok-turn_fault-clause-answer c =
    let t = c.args.self.now.template.now in
    let nodes = c.args.self.now.nodes in (
      answered c.in-Ok-turn_fault.turn (drafted t nodes (here c.turn_fault.new.part)),
      subst (λ (i : Item). IsTurnedTo (drafted t nodes (here c.args.self.now.part)) c.args.hart i c.args.draws.now (answered c.in-Ok-turn_fault.turn (drafted t nodes (here c.turn_fault.new.part)))) (sym c.in-FetchFault.is) c.in-Ok-turn_fault.ensures.turned,
      answer_shown t nodes c.in-Ok-turn_fault.turn c.turn_fault.new.part c.is_told-in-Ok-turn_fault.ensures,
    )

pub returns-in-Ok-turn_fault-clause-kept : goal.returns-in-Ok-turn_fault-clause-kept
returns-in-Ok-turn_fault-clause-kept c = still_there c.args.self.now.template.now c.args.self.now.nodes c.args.self.now.part c.turn_fault.new.part c.in-Ok-turn_fault.ensures.kept

pub returns-in-Ok-turn_fault-clause-still : goal.returns-in-Ok-turn_fault-clause-still
returns-in-Ok-turn_fault-clause-still c = still_allowed c.args.self.now.template.now c.args.self.now.nodes c.args.self.now.part.now c.turn_fault.new.part.now c.in-Ok-turn_fault.ensures.ground
