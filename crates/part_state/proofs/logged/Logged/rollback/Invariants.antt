use Rattle.std.proofs.Common.{◌≡◌, ◌+◌, ◌≤◌, length, take}
use Rattle.part_machine.specs.Whole.{wholes}
use Rattle.part_state.specs.Internal.Parts.{history, IsKept}
use Rattle.part_state.proofs.logged.Logged.rollback.Given as goal

-- what stands is the front of what stood
abbrev pub invariant-loop-entry : goal.invariant-loop-entry
invariant-loop-entry l = record {
  fore : wholes (history l.self) ≡ take (length l.self.log + 1) (wholes (history l.fn.self));
  kept : IsKept l.self;
  left : l.mark ≤ length l.self.log;
}

abbrev pub decreases-loop-entry : goal.decreases-loop-entry
decreases-loop-entry l = length l.self.log
