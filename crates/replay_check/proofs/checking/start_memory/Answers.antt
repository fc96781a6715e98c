use Rattle.std.proofs.Common.{ℕ, List, sym, subst}
use Rattle.tpl_ast.specs.declared.template.Region.{Region}
use Rattle.replay_check.specs.Internal.Memory.{IsStart}
use Rattle.replay_check.proofs.Ends.{start_is}
use Rattle.replay_check.proofs.checking.start_memory.Goals as goal

pub memory_of-requires : goal.memory_of-requires
memory_of-requires c =
    let cert = c.args.cert.now in
    subst (λ (ram : List Region). IsStart ram c.as_slice-2.result.now) (sym c.as_slice.ensures)
    (subst (λ (ws : List (ℕ × ℕ)). IsStart cert.template.ram ws) (sym c.as_slice-2.ensures) (start_is c.template_law.ensures cert c.requires))
