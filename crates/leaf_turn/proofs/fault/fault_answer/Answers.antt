use Rattle.std.proofs.Common.{true, Ok, ap, sym, subst}
use Rattle.dom_set.specs.Elements.{is_in}
use Rattle.fetch_ways.specs.Ways.{AreFetchWays}
use Rattle.fd_solve.specs.declared.answers.Solved.{Solved}
use Rattle.leaf_link.specs.FetchAnswers.{IsFaultAnswer}
use Rattle.part_state.specs.State.{here}
use Rattle.turn_laws.specs.Given.{turn_at}
use Rattle.leaf_turn.proofs.Fetches.{is_answer}
use Rattle.leaf_turn.proofs.Grounding.{setting_at, setting_is}
use Rattle.leaf_turn.proofs.fault.fault_answer.Goals as goal

pub returns-clause-answer : goal.returns-clause-answer
returns-clause-answer c = λ s feet setting footprint.
    let turn = turn_at s feet c.args.hart (here c.args.part.now) in
    let walks = c.in_ok-walks.ensures s feet setting footprint in
    let traps = c.bare_stand-stand.ensures.traps s feet setting in
    let posed = c.in_ok-problem.ensures.fault turn walks.rows.0 (record {
      privilege = traps.privilege;
      medeleg = traps.medeleg;
      csrs = traps.csrs;
      vectors = traps.vectors;
      pairs = walks.pairs;
      firsts = walks.firsts;
      seconds = walks.seconds;
    }) (subst (AreFetchWays turn) (sym c.deref.ensures.value) walks.ways) walks.rows.1 in
    c.fetch_answers_are_exact.ensures.faults turn (is_in c.args.causes.now) walks.rows.0 c.args.draws.now c.in_ok-problem.problem c.args.nodes c.in_ok-solve.field-0 walks.rows.1 posed.0 posed.1
    (is_answer c.in_ok-problem.problem c.args.nodes c.in_ok-solve.field-0
    (λ is. c.in_ok-solve.ensures.spent.0 (ap (λ (a : Solved). Ok a) is))
    (λ less. cc (c.in_ok-solve.ensures.spent.1 less))
    (λ x is. c.in_ok-solve.ensures.found x (ap (λ (a : Solved). Ok a) is))
    (λ is. c.in_ok-solve.ensures.none (ap (λ (a : Solved). Ok a) is)))

pub returns-clause-playable : goal.returns-clause-playable
returns-clause-playable c = λ x is.
    let s = setting_at c.args.t.now (λ v. true) in
    let feet = c.footprints_exist.ensures in
    c.answers_are_playable.ensures.faults c.args.hart (here c.args.part.now) s feet.0 (is_in c.args.causes.now) c.args.draws.now c.args.nodes x c.requires.vectors feet.1 c.known_is_words.ensures.aligned
    (subst (IsFaultAnswer (turn_at s feet.0 c.args.hart (here c.args.part.now)) (is_in c.args.causes.now) c.args.draws.now c.args.nodes) is (returns-clause-answer c s feet.0 (setting_is c.args.t.now (λ v. true)) feet.1))
