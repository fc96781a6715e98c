use Rattle.std.proofs.Common.{◌≡◌, ◌∙◌, ℕ, List, length, ap, arith}
use Rattle.rv_hart.specs.declared.record.Record.{Record}
use Rattle.run_order.specs.Orders.{order_of, turns_in}
use Rattle.tool_texts.proofs.Runs.{all_records, order_length, turns_few, turns_of}
use Rattle.tool_texts.proofs.running.run_of_file.Goals as goal

pub turns_of-requires : goal.turns_of-requires
turns_of-requires c =
    let same : turns_in (turns_of c.as_slice.result.now) ≡ turns_in (turns_of c.args.certificate.now.traces) = ap (λ (ts : List (List Record)). turns_in (turns_of ts)) c.as_slice.ensures in
    omega (arith, same, turns_few c.args.certificate.now c.requires)

pub drawn_order-requires-clause-room : goal.drawn_order-requires-clause-room
drawn_order-requires-clause-room c =
    let left : c.as_slice-2.result.now ≡ turns_of c.args.certificate.now.traces = c.as_slice-2.ensures.value ∙ c.in_ok-turns.ensures ∙ ap turns_of c.as_slice.ensures in
    omega (arith, ap turns_in left, turns_few c.args.certificate.now c.requires)

pub returns-clause-fit : goal.returns-clause-fit
returns-clause-fit c = all_records c.in_ok-execute.field-0.events.items c.in_ok-execute.ensures.fit

pub returns-clause-few : goal.returns-clause-few
returns-clause-few c =
    let left : c.as_slice-2.result.now ≡ turns_of c.args.certificate.now.traces = c.as_slice-2.ensures.value ∙ c.in_ok-turns.ensures ∙ ap turns_of c.as_slice.ensures in
    let order : c.as_slice-3.result.now ≡ order_of c.args.number c.as_slice-2.result.now = c.as_slice-3.ensures.value ∙ c.in_ok-order.ensures in
    omega (arith, c.in_ok-execute.ensures.few, ap (λ (ks : List ℕ). length ks) order, order_length c.args.number c.as_slice-2.result.now, ap turns_in left, turns_few c.args.certificate.now c.requires)
