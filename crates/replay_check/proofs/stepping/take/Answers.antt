use Rattle.std.proofs.Common.{ℕ, sym, ◌∙◌, true≢false}
use Rattle.rv_mem.specs.Part.{part_at}
use Rattle.replay_check.specs.Internal.Replay.{Strays}
use Rattle.replay_check.proofs.Steps.{takes, strays_other, strays_missing, strays_outside, kind_told, same_record, record_same}
use Rattle.replay_check.proofs.stepping.take.Goals as goal

pub returns-then-is_same-clause-right : goal.returns-then-is_same-clause-right
returns-then-is_same-clause-right c = λ ram given m shows none.
    takes ram given m (part_at c.args.memory.now) (part_at c.step.new.m) c.args.hart.now c.step.new.h c.in-Did.did c.args.done.now shows c.count_registers.ensures c.in-Did.ensures.machine c.in-Did.ensures.after
    c.in-Did.ensures.sound.rd c.in-Did.ensures.memory (same_record c.in-Did.did c.args.done.now (c.is_same.ensures.0 c.if-is_same.true))

pub returns-else-is_same-clause-wrong : goal.returns-else-is_same-clause-wrong
returns-else-is_same-clause-wrong c = λ ram given m shows kind told.
    kind_told (λ (n : ℕ). Strays ram given m c.args.hart.now c.args.done.now n) 1 kind told
    (strays_other ram given m (part_at c.args.memory.now) c.args.hart.now c.in-Did.did c.args.done.now shows c.count_registers.ensures c.in-Did.ensures.machine
    (λ same. absurd (true≢false (sym (c.is_same.ensures.1 (record_same c.in-Did.did c.args.done.now same)) ∙ c.if-is_same.false))))

pub returns-in-Missing-clause-wrong : goal.returns-in-Missing-clause-wrong
returns-in-Missing-clause-wrong c = λ ram given m shows kind told.
    kind_told (λ (n : ℕ). Strays ram given m c.args.hart.now c.args.done.now n) 2 kind told
    (strays_missing ram given m (part_at c.args.memory.now) c.args.hart.now c.in-Missing.field-0 c.args.done.now shows c.count_registers.ensures c.in-Missing.ensures.machine)

pub returns-in-Outside-clause-wrong : goal.returns-in-Outside-clause-wrong
returns-in-Outside-clause-wrong c = λ ram given m shows kind told.
    kind_told (λ (n : ℕ). Strays ram given m c.args.hart.now c.args.done.now n) 3 kind told
    (strays_outside ram given m (part_at c.args.memory.now) c.args.hart.now c.args.done.now shows c.count_registers.ensures c.in-Outside.ensures.machine)
