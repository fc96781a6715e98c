use Rattle.std.proofs.Common.{refl, sym, ap, ◌∙◌, subst}
use Rattle.sv_walk.specs.declared.entry.View.{View}
use Rattle.leaf_link.specs.Firsts.{pairs_at}
use Rattle.turn_laws.specs.Given.{turn_at}
use Rattle.part_state.specs.State.{here}
use Rattle.leaf_turn.specs.Entering.{AnswersFetch}
use Rattle.leaf_turn.proofs.entering.answer_and_enter.Goals as goal

pub returns-then-not-matches-clause-entered : goal.returns-then-not-matches-clause-entered
returns-then-not-matches-clause-entered c = c.enter_settled.ensures c.args.t.now c.args.draws.now (λ s feet setting.
    ap (λ (v : View). pairs_at (turn_at s feet c.args.hart (here c.args.part.now)) v) (sym c.fetch_view-view.ensures) ∙ c.in_ok-pairs.ensures s feet c.args.hart (here c.args.part.now) setting)

pub returns-in-NoneFits-clause-entered : goal.returns-in-NoneFits-clause-entered
returns-in-NoneFits-clause-entered c = (subst (AnswersFetch c.args.t.now c.args.hart c.args.draws.now c.args.nodes (here c.args.part.now)) c.in-NoneFits.is c.in_ok-fetch_answer.ensures.answer, refl)

pub returns-in-Spent-clause-entered : goal.returns-in-Spent-clause-entered
returns-in-Spent-clause-entered c = (subst (AnswersFetch c.args.t.now c.args.hart c.args.draws.now c.args.nodes (here c.args.part.now)) c.in-Spent.is c.in_ok-fetch_answer.ensures.answer, refl)

pub returns-in_ok-enter-in-Found-clause-entered : goal.returns-in_ok-enter-in-Found-clause-entered
returns-in_ok-enter-in-Found-clause-entered c =
    (c.in-Found.x, subst (AnswersFetch c.args.t.now c.args.hart c.args.draws.now c.args.nodes (here c.args.part.now)) c.in-Found.is c.in_ok-fetch_answer.ensures.answer, c.in_ok-enter-in-Found.ensures.entered)
