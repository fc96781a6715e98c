use Rattle.std.proofs.Common.{ℕ, ◌≡◌}
use Rattle.rv_mem.specs.Part.{part_at}
use Rattle.part_machine.specs.Whole.{Whole}
use Rattle.part_state.proofs.States.{told_here}
use Rattle.part_state.proofs.part.Part.memory.Goals as goal

pub returns : goal.returns
returns c = told_here (λ (w : Whole). (n : ℕ) → part_at c.memory.result.now n ≡ w.memory n) c.args.self.now c.self.inside.inner c.self.view_is c.self.invariant c.memory.ensures
