use Rattle.std.proofs.Common.{◌≡◌, ◌-◌, find}
use Rattle.std.specs.List.{filter_map}
use Rattle.fd_prob.specs.Spaces.{allowed_case, is_access, numbers_from}
use Rattle.fd_prob.proofs.spaces.first_access.Given as goal

abbrev pub invariant-loop-op : goal.invariant-loop-op
invariant-loop-op l = find is_access (filter_map (allowed_case l.cases) (numbers_from l.op (58 - l.op))) ≡ find is_access (filter_map (allowed_case l.cases) (numbers_from 0 58))
