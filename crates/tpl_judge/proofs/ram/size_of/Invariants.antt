use Rattle.std.proofs.Common.{◌≡◌, ◌+◌, ◌-◌, ◌^◌, ◌<◌, min, drop}
use Rattle.tpl_ast.specs.Templates.{size_of}
use Rattle.tpl_judge.proofs.ram.size_of.Given as goal

abbrev pub invariant-loop-region : goal.invariant-loop-region
invariant-loop-region l = record {
  within : l.size < 2 ^ 64;
  rest : min (l.size + size_of (drop l.region-index l.ram)) (2 ^ 64 - 1) ≡ min (size_of l.ram) (2 ^ 64 - 1);
}
