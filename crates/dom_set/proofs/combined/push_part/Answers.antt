use Rattle.std.proofs.Common.{arith}
use Rattle.dom_set.proofs.Walks.{ends_before, not_reaching}
use Rattle.dom_set.proofs.combined.push_part.Goals as goal

pub returns-then-p-q-clause-all : goal.returns-then-p-q-clause-all
returns-then-p-q-clause-all c = λ x. omega (arith, c.in_ok-push_piece.ensures x, ends_before c.args.p c.args.q x c.if-p-q.true)

pub returns-then-p-q-clause-before : goal.returns-then-p-q-clause-before
returns-then-p-q-clause-before c = λ x from. omega (arith, c.in_ok-push_piece.ensures x, not_reaching c.args.p c.args.q.run.low x c.if-p-q.true (from c.if-ascending.true))
