use Rattle.std.proofs.Common.{subst}
use Rattle.std.proofs.lemmas.Result.{IfOk-weaker}
use Rattle.fd_narrow.proofs.Outcomes.{on_ok}
use Rattle.gen_search.specs.Wholes.{answered}
use Rattle.part_state.specs.State.{here}
use Rattle.leaf_turn.specs.Entering.{IsEnteredAs}
use Rattle.gen_turn.specs.Drafts.{Drafted, drafted}
use Rattle.gen_turn.specs.Grounds.{IsSameGround}
use Rattle.gen_turn.specs.Turns.{IsAnswered, IsDone}
use Rattle.gen_turn.proofs.Turning.{done_at, done_none, done_spent, entered_harts, ground_at, ground_from, own_ground}
use Rattle.gen_turn.proofs.leaf.enter_and_answer.Goals as goal

pub known_is_words-requires : goal.known_is_words-requires
known_is_words-requires c =
    entered_harts (drafted c.args.t.now c.args.nodes (here c.args.part.now)) c.args.hart c.args.draws.now (here c.enter_fetch.new.part) c.in-At.pa
    (subst (IsEnteredAs c.args.t.now c.args.hart c.args.draws.now c.args.nodes (here c.args.part.now) (here c.enter_fetch.new.part)) c.in-At.is c.in_ok-enter_fetch.ensures.entered) c.requires.ground.hart

pub answer_and_take-requires-clause-ground : goal.answer_and_take-requires-clause-ground
answer_and_take-requires-clause-ground c =
    ground_at (drafted c.args.t.now c.args.nodes (here c.args.part.now)) c.args.hart c.args.draws.now (here c.enter_fetch.new.part) c.in-At.pa
    (subst (IsEnteredAs c.args.t.now c.args.hart c.args.draws.now c.args.nodes (here c.args.part.now) (here c.enter_fetch.new.part)) c.in-At.is c.in_ok-enter_fetch.ensures.entered)
    c.requires.ground c.is_test.ensures (record { aligned = c.known_is_words.ensures.aligned; known = c.known_is_words.ensures.words; fixed = c.known_is_words.ensures.fixed })

pub answer_and_take-requires-clause-leads : goal.answer_and_take-requires-clause-leads
answer_and_take-requires-clause-leads c =
    let e = subst (IsEnteredAs c.args.t.now c.args.hart c.args.draws.now c.args.nodes (here c.args.part.now) (here c.enter_fetch.new.part)) c.in-At.is c.in_ok-enter_fetch.ensures.entered in
    (e.2.walk, e.2.leads)

pub returns-in-NoneFits-clause-turned : goal.returns-in-NoneFits-clause-turned
returns-in-NoneFits-clause-turned c =
    done_none (drafted c.args.t.now c.args.nodes (here c.args.part.now)) c.args.hart c.args.wishes.now c.args.draws.now (here c.enter_fetch.new.part)
    (subst (IsEnteredAs c.args.t.now c.args.hart c.args.draws.now c.args.nodes (here c.args.part.now) (here c.enter_fetch.new.part)) c.in-NoneFits.is c.in_ok-enter_fetch.ensures.entered)

pub returns-in-NoneFits-clause-ground : goal.returns-in-NoneFits-clause-ground
returns-in-NoneFits-clause-ground c =
    let e = subst (IsEnteredAs c.args.t.now c.args.hart c.args.draws.now c.args.nodes (here c.args.part.now) (here c.enter_fetch.new.part)) c.in-NoneFits.is c.in_ok-enter_fetch.ensures.entered in
    own_ground (here c.args.part.now) (here c.enter_fetch.new.part) e.1

pub returns-in-Spent-clause-turned : goal.returns-in-Spent-clause-turned
returns-in-Spent-clause-turned c =
    done_spent (drafted c.args.t.now c.args.nodes (here c.args.part.now)) c.args.hart c.args.wishes.now c.args.draws.now (here c.enter_fetch.new.part)
    (subst (IsEnteredAs c.args.t.now c.args.hart c.args.draws.now c.args.nodes (here c.args.part.now) (here c.enter_fetch.new.part)) c.in-Spent.is c.in_ok-enter_fetch.ensures.entered)

pub returns-in-Spent-clause-ground : goal.returns-in-Spent-clause-ground
returns-in-Spent-clause-ground c =
    let e = subst (IsEnteredAs c.args.t.now c.args.hart c.args.draws.now c.args.nodes (here c.args.part.now) (here c.enter_fetch.new.part)) c.in-Spent.is c.in_ok-enter_fetch.ensures.entered in
    own_ground (here c.args.part.now) (here c.enter_fetch.new.part) e.1

pub returns-in-At-clause-turned : goal.returns-in-At-clause-turned
returns-in-At-clause-turned c =
    let d : Drafted = drafted c.args.t.now c.args.nodes (here c.args.part.now) in
    let e = subst (IsEnteredAs c.args.t.now c.args.hart c.args.draws.now c.args.nodes (here c.args.part.now) (here c.enter_fetch.new.part)) c.in-At.is c.in_ok-enter_fetch.ensures.entered in
    IfOk-weaker c.answer_and_take.result
    (λ turn. IsAnswered (drafted c.args.t.now c.args.nodes (here c.enter_fetch.new.part)) c.args.hart c.args.wishes.now c.args.draws.now (answered turn (drafted c.args.t.now c.args.nodes (here c.answer_and_take.new.part))))
    (λ turn. IsDone d c.args.hart c.args.wishes.now c.args.draws.now (answered turn (drafted c.args.t.now c.args.nodes (here c.answer_and_take.new.part))))
    (λ turn done.
    done_at d c.args.hart c.args.wishes.now c.args.draws.now (here c.enter_fetch.new.part) c.in-At.pa e c.is_test.ensures
    (record { aligned = c.known_is_words.ensures.aligned; known = c.known_is_words.ensures.words; fixed = c.known_is_words.ensures.fixed })
    (answered turn (drafted c.args.t.now c.args.nodes (here c.answer_and_take.new.part))) done)
    c.answer_and_take.ensures.turned

pub returns-in-At-clause-ground : goal.returns-in-At-clause-ground
returns-in-At-clause-ground c =
    let d : Drafted = drafted c.args.t.now c.args.nodes (here c.args.part.now) in
    let e = subst (IsEnteredAs c.args.t.now c.args.hart c.args.draws.now c.args.nodes (here c.args.part.now) (here c.enter_fetch.new.part)) c.in-At.is c.in_ok-enter_fetch.ensures.entered in
    on_ok c.answer_and_take.result (IsSameGround (here c.enter_fetch.new.part) (here c.answer_and_take.new.part)) (IsSameGround (here c.args.part.now) (here c.answer_and_take.new.part))
    (ground_from d c.args.hart c.args.draws.now (here c.enter_fetch.new.part) c.in-At.pa e c.is_test.ensures
    (record { aligned = c.known_is_words.ensures.aligned; known = c.known_is_words.ensures.words; fixed = c.known_is_words.ensures.fixed }) (here c.answer_and_take.new.part))
    c.answer_and_take.ensures.ground
