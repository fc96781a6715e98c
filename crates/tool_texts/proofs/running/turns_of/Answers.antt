use Rattle.std.proofs.Common.{ℕ, List, ◌++◌, length, ap, arith}
use Rattle.rv_hart.specs.declared.record.Record.{Record}
use Rattle.tool_texts.proofs.Runs.{turn_more, turns_all, turns_of, turns_within}
use Rattle.tool_texts.proofs.running.turns_of.Goals as goal

pub loop-trace-init : goal.loop-trace-init
loop-trace-init c = ap (λ (xs : List ℕ). xs ++ turns_of c.args.traces.now) c.new-turns.ensures.items

pub overflow_cast-len : goal.overflow_cast-len
overflow_cast-len c =
    let within = turns_within c.args.traces.now c.loop-trace.trace-index c.trace-item.result c.loop-trace-test.true in
    omega (arith, c.requires, within, c.len.ensures, ap (λ (t : List Record). length t) c.trace-item.is)

pub loop-trace-preserved : goal.loop-trace-preserved
loop-trace-preserved c =
    turn_more c.args.traces.now c.loop-trace.trace-index c.loop-trace.turns.items c.push.new.self.items c.len.result c.trace-item.result c.loop-trace-test.true c.trace-item.is c.len.ensures c.in_ok-push.ensures.items c.loop-trace.invariant

pub returns : goal.returns
returns c = turns_all c.args.traces.now c.loop-trace.trace-index c.loop-trace.turns.items c.loop-trace-test.false c.loop-trace.invariant
