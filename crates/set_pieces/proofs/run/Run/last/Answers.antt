use Rattle.std.proofs.Common.{sym, subst, arith}
use Rattle.set_pieces.specs.Internal.Runs.{in_run}
use Rattle.set_pieces.specs.Ends.{IsLast}
use Rattle.set_pieces.proofs.Lasts.{last_held, none_held}
use Rattle.set_pieces.proofs.run.Run.last.Goals as goal

pub returns-in_err-last : goal.returns-in_err-last
returns-in_err-last c = subst (IsLast (in_run c.args.self)) (sym c.from_residual.ensures) (none_held c.args.self (λ x from to. c.in_err-last.ensures x to))

pub returns-then-self-last : goal.returns-then-self-last
returns-then-self-last c = last_held c.args.self c.in_ok-last.last c.if-self-last.true c.in_ok-last.ensures

pub returns-else-self-last : goal.returns-else-self-last
returns-else-self-last c = none_held c.args.self (λ x from to. c.in_ok-last.ensures.2 x (omega (arith, from, c.if-self-last.false)) to)
