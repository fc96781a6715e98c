use Rattle.std.proofs.Common.{◌≡◌, length, ◌∙◌, arith}
use Rattle.cover_sweep.proofs.Times.{zeros_room, zeros_up}
use Rattle.cover_sweep.proofs.counting.totals_of.Goals as goal

pub count_harts-requires-clause-room : goal.count_harts-requires-clause-room
count_harts-requires-clause-room c = zeros_room c.deref_mut.result.now c.args.traces.now (c.deref_mut.ensures.value ∙ c.in_ok-totals.ensures.items_if_clones_equal (λ y same. same)) c.requires

pub returns-clause-each : goal.returns-clause-each
returns-clause-each c =
    let long : length c.count_harts.new.totals ≡ c.in_ok-totals.totals.len = omega arith in
    zeros_up c.deref_mut.result.now c.count_harts.new.totals c.in_ok-totals.totals.items c.in_ok-totals.totals.len c.args.traces.now (c.deref_mut.ensures.value ∙ c.in_ok-totals.ensures.items_if_clones_equal (λ y same. same)) long c.count_harts.ensures
