use Rattle.std.proofs.Common.{[], refl, sym, subst}
use Rattle.fd_solve.specs.declared.answers.Solved.{Solved}
use Rattle.leaf_link.specs.Answers.{values_in}
use Rattle.leaf_turn.specs.declared.taking.Fetch.TheVariants as fetches
use Rattle.leaf_turn.specs.Answers.{IsPlayable}
use Rattle.gen_search.specs.Search.{Turned.Taken, Turned.NoneFits, Turned.Spent}
use Rattle.part_state.specs.State.{here}
use Rattle.gen_turn.specs.Drafts.{drafted}
use Rattle.gen_turn.specs.Turns.{EndsAs}
use Rattle.gen_turn.proofs.Turning.{failed_so}
use Rattle.gen_turn.proofs.leaf.answer_fault.Goals as goal

pub take_bind_and_list-requires-clause-playable : goal.take_bind_and_list-requires-clause-playable
take_bind_and_list-requires-clause-playable c = subst (λ root. IsPlayable c.args.hart (here c.args.part.now) (fetches.Fails root) (values_in c.in-Found.x)) (sym c.root_of.ensures) (c.in_ok-fault_answer.ensures.playable c.in-Found.x c.in-Found.is)

pub returns-in-NoneFits-clause-turned : goal.returns-in-NoneFits-clause-turned
returns-in-NoneFits-clause-turned c =
    failed_so (drafted c.args.t.now c.args.nodes (here c.args.part.now)) c.args.hart c.args.causes.now c.args.draws.now c.in_ok-fault_answer.field-0 c.in_ok-fault_answer.ensures.answer NoneFits
    (subst (λ (s : Solved). EndsAs (drafted c.args.t.now c.args.nodes (here c.args.part.now)) c.args.hart [] [] s NoneFits) (sym c.in-NoneFits.is) refl)

pub returns-in-Spent-clause-turned : goal.returns-in-Spent-clause-turned
returns-in-Spent-clause-turned c =
    failed_so (drafted c.args.t.now c.args.nodes (here c.args.part.now)) c.args.hart c.args.causes.now c.args.draws.now c.in_ok-fault_answer.field-0 c.in_ok-fault_answer.ensures.answer Spent
    (subst (λ (s : Solved). EndsAs (drafted c.args.t.now c.args.nodes (here c.args.part.now)) c.args.hart [] [] s Spent) (sym c.in-Spent.is) refl)

pub returns-in_ok-take_bind_and_list-in-Found-clause-turned : goal.returns-in_ok-take_bind_and_list-in-Found-clause-turned
returns-in_ok-take_bind_and_list-in-Found-clause-turned c =
    failed_so (drafted c.args.t.now c.args.nodes (here c.args.part.now)) c.args.hart c.args.causes.now c.args.draws.now c.in_ok-fault_answer.field-0 c.in_ok-fault_answer.ensures.answer
    (Taken (drafted c.args.t.now c.args.nodes (here c.take_bind_and_list.new.part)))
    (subst (λ (s : Solved). EndsAs (drafted c.args.t.now c.args.nodes (here c.args.part.now)) c.args.hart [] [] s (Taken (drafted c.args.t.now c.args.nodes (here c.take_bind_and_list.new.part)))) (sym c.in-Found.is)
    (here c.take_bind_and_list.new.part, c.in_ok-take_bind_and_list-in-Found.ensures.taken, refl))
