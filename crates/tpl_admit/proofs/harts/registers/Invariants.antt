use Rattle.std.proofs.Common.{◌≡◌, drop}
use Rattle.tpl_admit.specs.Admitting.{with_given}
use Rattle.rv_hart.specs.Registers.{no_registers}
use Rattle.tpl_admit.proofs.harts.registers.Given as goal

abbrev pub invariant-loop-place : goal.invariant-loop-place
invariant-loop-place l = with_given (drop l.place-index l.places) l.regs ≡ with_given l.places no_registers
