use Rattle.std.proofs.Common.{ℕ, subst}
use Rattle.sv_walk.specs.Clauses.{IsWalk}
use Rattle.rv_hart.specs.Sighted.{at_role}
use Rattle.rv_hart.proofs.Walks.{walk_seen, end_seen}
use Rattle.rv_hart.proofs.seeing.walk_with.Goals as goal

pub returns-clause-answer : goal.returns-clause-answer
returns-clause-answer g c =
    let words = g.M.Sighted.sights c.args.m.now in
    let at = g.M.Words.at c.args.m.now in
    walk_seen words at c.args.v c.args.kind c.args.va c.walk.result
    (subst (λ (role : ℕ). IsWalk (at_role words role at) c.args.v c.args.kind c.args.va c.walk.result) c.walk_role.ensures c.walk.ensures.answer)

pub returns-clause-end : goal.returns-clause-end
returns-clause-end g c = end_seen (g.M.Sighted.sights c.args.m.now) c.walk_role.result (g.M.Words.at c.args.m.now) c.walk.result.outcome c.walk.ensures.end
