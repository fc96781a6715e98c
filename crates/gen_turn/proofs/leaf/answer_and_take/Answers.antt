use Rattle.std.proofs.Common.{ℕ, Bool, List, refl, sym, subst}
use Rattle.fd_solve.specs.declared.answers.Solved.{Solved}
use Rattle.leaf_link.specs.Answers.{values_in}
use Rattle.gen_search.specs.Search.{Turned.Taken, Turned.NoneFits, Turned.Spent}
use Rattle.part_state.specs.State.{here}
use Rattle.gen_turn.specs.Drafts.{drafted}
use Rattle.gen_turn.specs.Turns.{EndsAs, IsLeafTaken}
use Rattle.gen_turn.proofs.Turning.{answered_so, led_aligned}
use Rattle.gen_turn.proofs.leaf.answer_and_take.Goals as goal

pub leaf_answer-requires-clause-aligned : goal.leaf_answer-requires-clause-aligned
leaf_answer-requires-clause-aligned c = led_aligned c.args.hart (here c.args.part.now) c.requires.leads.0 c.args.pa c.requires.leads.1

pub returns-in-NoneFits-clause-turned : goal.returns-in-NoneFits-clause-turned
returns-in-NoneFits-clause-turned c =
    answered_so (drafted c.args.t.now c.args.nodes (here c.args.part.now)) c.args.hart c.args.wishes.now c.args.draws.now c.requires.leads.0 c.args.pa c.requires.leads.1 c.in_ok-answer.answer c.in_ok-answer.ensures.answer NoneFits
    (subst (λ (s : Solved). EndsAs (drafted c.args.t.now c.args.nodes (here c.args.part.now)) c.args.hart c.args.wishes.now c.in_ok-answer.answer.dropped s NoneFits) (sym c.in-NoneFits.is) refl)

pub returns-in-Spent-clause-turned : goal.returns-in-Spent-clause-turned
returns-in-Spent-clause-turned c =
    answered_so (drafted c.args.t.now c.args.nodes (here c.args.part.now)) c.args.hart c.args.wishes.now c.args.draws.now c.requires.leads.0 c.args.pa c.requires.leads.1 c.in_ok-answer.answer c.in_ok-answer.ensures.answer Spent
    (subst (λ (s : Solved). EndsAs (drafted c.args.t.now c.args.nodes (here c.args.part.now)) c.args.hart c.args.wishes.now c.in_ok-answer.answer.dropped s Spent) (sym c.in-Spent.is) refl)

pub returns-clause-turned : goal.returns-clause-turned
returns-clause-turned c =
    answered_so (drafted c.args.t.now c.args.nodes (here c.args.part.now)) c.args.hart c.args.wishes.now c.args.draws.now c.requires.leads.0 c.args.pa c.requires.leads.1 c.in_ok-answer.answer c.in_ok-answer.ensures.answer
    (Taken (drafted c.args.t.now c.args.nodes (here c.take_bind_and_list.new.part)))
    (subst (λ (s : Solved). EndsAs (drafted c.args.t.now c.args.nodes (here c.args.part.now)) c.args.hart c.args.wishes.now c.in_ok-answer.answer.dropped s (Taken (drafted c.args.t.now c.args.nodes (here c.take_bind_and_list.new.part)))) (sym c.in-Found.is)
    (here c.take_bind_and_list.new.part, subst (λ (ds : List (ℕ × Bool)). IsLeafTaken c.args.hart c.args.wishes.now ds (values_in c.in-Found.x) (here c.args.part.now) (here c.take_bind_and_list.new.part)) c.as_slice.ensures c.in_ok-take_bind_and_list-in-Found.ensures.taken, refl))

pub take_bind_and_list-requires-clause-playable : goal.take_bind_and_list-requires-clause-playable
take_bind_and_list-requires-clause-playable c =
    c.answers_are_playable.ensures.found c.args.hart (here c.args.part.now) c.args.pa (values_in c.in-Found.x) (c.in_ok-answer.ensures.found c.in-Found.x c.in-Found.is)
