use Rattle.std.proofs.Common.{◌≡◌, bit_and, ◌+◌, ◌-◌, ◌%◌, ◌^◌, ap, ◌∙◌, arith}
use Rattle.set_pieces.proofs.Halving.{IsFirst}
use Rattle.set_pieces.proofs.Stepping.{each, same_turn, next_turn}
use Rattle.set_pieces.proofs.pattern.Pattern.next_step.Goals as goal

lower : (c : goal.Then-low-from) → IsFirst c.args.self c.args.from (c.args.from - bit_and c.args.from c.from.result + c.from-2.result)
lower c =
    let e = each c.args.self c.requires.step in
    let low : bit_and c.args.from c.from.result ≡ c.args.from % 2 ^ c.requires.step.0 = ap (bit_and c.args.from) c.from.ensures ∙ e.cut c.args.from in
    rw c.from-2.ensures (same_turn c.args.self (2 ^ c.requires.step.0) c.args.from (bit_and c.args.from c.from.result) e low (omega (arith, c.if-low-from.true, c.from-3.ensures)))

upper : (c : goal.After-from-else-low-from) → IsFirst c.args.self c.args.from (c.args.from - bit_and c.args.from c.from.result + c.from-2.result + c.from-else-low-from.result + 1)
upper c =
    let e = each c.args.self c.requires.step in
    let low : bit_and c.args.from c.from.result ≡ c.args.from % 2 ^ c.requires.step.0 = ap (bit_and c.args.from) c.from.ensures ∙ e.cut c.args.from in
    rw (c.from-2.ensures, c.from-else-low-from.ensures)
    (next_turn c.args.self (2 ^ c.requires.step.0) c.args.from (bit_and c.args.from c.from.result) e low (omega (arith, c.if-low-from.false, c.from-3.ensures)))

pub returns-then-low-from-clause-matching : goal.returns-then-low-from-clause-matching
returns-then-low-from-clause-matching c = (lower c).matching

pub returns-then-low-from-clause-first : goal.returns-then-low-from-clause-first
returns-then-low-from-clause-first c = (lower c).first

pub returns-else-low-from-clause-matching : goal.returns-else-low-from-clause-matching
returns-else-low-from-clause-matching c = (upper c).matching

pub returns-else-low-from-clause-first : goal.returns-else-low-from-clause-first
returns-else-low-from-clause-first c = (upper c).first
