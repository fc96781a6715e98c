use Rattle.std.proofs.Common.{◌≡◌, ◌++◌, drop, take}
use Rattle.tpl_lang.specs.Faults.{are_bad_frames}
use Rattle.tpl_fault.specs.Internal.Frames.{others_after}
use Rattle.tpl_state.specs.Internal.State.{known}
use Rattle.tpl_fault.proofs.ram.are_bad_frames.Given as goal

abbrev pub invariant-loop-i : goal.invariant-loop-i
invariant-loop-i l = let k = known l.state in are_bad_frames k.ram (others_after (take l.i l.frames) (k.pool ++ k.tables)) (drop l.i l.frames) ≡ are_bad_frames k.ram (k.pool ++ k.tables) l.frames
