use Rattle.std.proofs.Common.{sym, ◌∙◌, true≢false}
use Rattle.replay_check.proofs.Keys.{places_ascend}
use Rattle.replay_check.proofs.Ends.{all_told, register_told, csr_told}
use Rattle.replay_check.proofs.places.are_told.Goals as goal

pub are_registers_told-requires : goal.are_registers_told-requires
are_registers_told-requires c = places_ascend 0 c.args.told.now c.requires

pub are_csrs_told-requires : goal.are_csrs_told-requires
are_csrs_told-requires c = places_ascend 0 c.args.told.now c.requires

pub returns-then-are_registers_told : goal.returns-then-are_registers_told
returns-then-are_registers_told c =
    let h = c.args.hart.now in
    let told = c.args.told.now in (
      (λ csrs. all_told h.regs h.csrs told c.requires (c.are_registers_told.ensures.0 c.if-are_registers_told.true) (c.are_csrs_told.ensures.0 csrs)),
      λ all. c.are_csrs_told.ensures.1 (csr_told h.regs h.csrs told all),
    )

pub returns-else-are_registers_told : goal.returns-else-are_registers_told
returns-else-are_registers_told c =
    let h = c.args.hart.now in
    let told = c.args.told.now in
    ((λ is. absurd (true≢false (sym is ∙ c.if-are_registers_told.false))), λ all. c.are_registers_told.ensures.1 (register_told h.regs h.csrs told all))
