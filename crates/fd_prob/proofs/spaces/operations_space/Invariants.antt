use Rattle.std.proofs.Common.{◌≡◌, ◌+◌, ◌-◌, ◌<◌, ◌^◌, map}
use Rattle.std.specs.List.{filter_map}
use Rattle.fd_prob.specs.Spaces.{allowed_case, numbers_from, operation_space, saturated, sum_of}
use Rattle.fd_prob.proofs.spaces.operations_space.Given as goal

abbrev pub invariant-loop-op : goal.invariant-loop-op
invariant-loop-op l = record {
  value : saturated (l.sum + sum_of (map operation_space (filter_map (allowed_case l.cases) (numbers_from l.op (58 - l.op))))) ≡ saturated (sum_of (map operation_space (filter_map (allowed_case l.cases) (numbers_from 0 58))));
  below : l.sum < 2 ^ 64;
}
