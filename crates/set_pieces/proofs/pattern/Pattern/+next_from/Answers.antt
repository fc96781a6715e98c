use Rattle.std.proofs.Common.{◌+◌, ◌*◌, arith}
use Rattle.set_pieces.proofs.Halving.{IsFirst, all_match, first_here, first_free, first_even, first_odd}
use Rattle.set_pieces.proofs.pattern.Pattern.+next_from.Goals as goal

pub returns-then-self-eq0-clause-matching : goal.returns-then-self-eq0-clause-matching
returns-then-self-eq0-clause-matching t c = all_match c.args.self c.if-self-eq0.true c.args.from

pub returns-then-next-from-clause-matching : goal.returns-then-next-from-clause-matching
returns-then-next-from-clause-matching t c =
    first_here c.args.self c.half-half.result c.args.from c.next_from-next.result (record { mask = c.half-half.ensures.mask; bits = c.half-half.ensures.bits }) c.if-self-eq0-2.true
    (record { matching = c.next_from-next.ensures.matching; reached = c.next_from-next.ensures.reached; first = c.next_from-next.ensures.first }) c.if-next-from.true

pub returns-else-next-from : goal.returns-else-next-from
returns-else-next-from t c =
    let is : IsFirst c.args.self c.args.from (2 * c.next_from-next.result) =
    first_free c.args.self c.half-half.result c.args.from c.next_from-next.result (record { mask = c.half-half.ensures.mask; bits = c.half-half.ensures.bits }) c.if-self-eq0-2.true
    (record { matching = c.next_from-next.ensures.matching; reached = c.next_from-next.ensures.reached; first = c.next_from-next.ensures.first }) c.if-next-from.false in
    record { matching = is.matching; reached = is.reached; first = is.first; near = omega (arith, c.next_from-next.ensures.near, c.half-half.ensures.mask) }

pub returns-then-self-eq0-3 : goal.returns-then-self-eq0-3
returns-then-self-eq0-3 t c =
    let is : IsFirst c.args.self c.args.from (2 * c.next_from.result) =
    first_even c.args.self c.half-half.result c.args.from c.next_from.result (record { mask = c.half-half.ensures.mask; bits = c.half-half.ensures.bits }) (omega arith) c.if-self-eq0-3.true
    (record { matching = c.next_from.ensures.matching; reached = c.next_from.ensures.reached; first = c.next_from.ensures.first }) in
    record { matching = is.matching; reached = is.reached; first = is.first; near = omega (arith, c.next_from.ensures.near, c.half-half.ensures.mask) }

pub returns-else-self-eq0-3 : goal.returns-else-self-eq0-3
returns-else-self-eq0-3 t c =
    let next = c.next_from-else-self-eq0-3 in
    let is : IsFirst c.args.self c.args.from (2 * next.result + 1) =
    first_odd c.args.self c.half-half.result c.args.from next.result (record { mask = c.half-half.ensures.mask; bits = c.half-half.ensures.bits }) (omega arith) (omega arith)
    (record { matching = next.ensures.matching; reached = next.ensures.reached; first = next.ensures.first }) in
    record { matching = is.matching; reached = is.reached; first = is.first; near = omega (arith, next.ensures.near, c.half-half.ensures.mask) }
