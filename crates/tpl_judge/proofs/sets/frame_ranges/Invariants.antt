use Rattle.std.proofs.Common.{◌≡◌, ◌+◌, ◌-◌, ◌^◌, ◌++◌, drop, map, min}
use Rattle.tpl_judge.proofs.sets.frame_ranges.Given as goal

abbrev pub invariant-loop-frame : goal.invariant-loop-frame
invariant-loop-frame l = l.ranges.items ++ map (λ f. (f, min (f + 4095) (2 ^ 32 - 1))) (drop l.frame-index l.frames) ≡ map (λ f. (f, min (f + 4095) (2 ^ 32 - 1))) l.frames
