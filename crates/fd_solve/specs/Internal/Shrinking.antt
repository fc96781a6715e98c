-- Biases that make no space larger.
use Rattle.std.specs.Prelude.{Bool, true, false, not}
use Rattle.std.specs.List.{list_all}
use Rattle.fd_prob.specs.declared.problem.Extra.{Extra}
use Rattle.fd_prob.specs.declared.slot.Slot.{Slot}
use Rattle.fd_prob.specs.declared.slot.Slot.TheVariants as slots

-- fewer values may make a space larger: without an operation another one's pages may count, and the values of rs1 count only where they are few
abbrev pub may_grow : Slot → Bool
may_grow slots.Op = true
may_grow slots.A = true
may_grow _ = false

-- the bias cuts no such variable
abbrev pub shrinks : Extra → Bool
shrinks e = list_all (λ cut. not (may_grow cut.0)) e.cuts
