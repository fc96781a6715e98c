use Rattle.std.proofs.Common.{List, ℕ, Option}
use Rattle.rv_mem.specs.Part.{part_at}
use Rattle.tpl_ast.specs.declared.template.Region.{Region}
use Rattle.replay_check.specs.Internal.Memory.{Shows}
use Rattle.replay_check.proofs.Traces.{IsUpTo}
use Rattle.replay_check.proofs.stepping.take_all.Given as goal

abbrev pub invariant-loop-i : goal.invariant-loop-i
invariant-loop-i l = (ram : List Region) (given : ℕ → Option ℕ) (m : ℕ → ℕ) → Shows ram given m (part_at l.fn.memory) → IsUpTo ram given m l.fn.hart l.hart (part_at l.memory) l.records l.i
