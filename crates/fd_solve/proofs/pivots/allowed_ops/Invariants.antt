use Rattle.std.proofs.Common.{◌≡◌, map}
use Rattle.std.specs.List.{filter_map}
use Rattle.fd_prob.specs.Spaces.{allowed_case, numbers_from}
use Rattle.fd_solve.proofs.pivots.allowed_ops.Given as goal

abbrev pub invariant-loop-op : goal.invariant-loop-op
invariant-loop-op l = l.ops.items ≡ map (λ c. c.op) (filter_map (allowed_case l.p.cases) (numbers_from 0 l.op))
