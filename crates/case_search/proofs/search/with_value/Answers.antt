use Rattle.std.proofs.Common.{set, arith}
use Rattle.fd_prob.specs.Slots.{slot_number}
use Rattle.case_search.proofs.Cuts.{cut_is, narrows_as}
use Rattle.case_search.proofs.search.with_value.Goals as goal

pub returns : goal.returns
returns c =
    let narrows = narrows_as c.operation.result c.as_slice.result.now c.set.new.self c.in_ok-narrowed.narrowed c.args.case.now (set c.args.doms (slot_number c.args.slot) c.in_ok-only.field-0) c.operation.ensures c.as_slice.ensures c.set.ensures c.in_ok-narrowed.ensures in
    cut_is c.args.case.now c.args.doms c.args.slot c.args.value c.in_ok-only.field-0 c.in_ok-narrowed.narrowed c.count-count.ensures.length (omega arith) c.in_ok-only.ensures c.requires.element narrows
