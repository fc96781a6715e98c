use Rattle.std.proofs.Common.{refl}
use Rattle.rv_mem.specs.Part.{part_at}
use Rattle.replay_check.proofs.Traces.{split_at, up_to_next, up_to_wrong}
use Rattle.replay_check.proofs.stepping.take_all.Goals as goal

pub returns-in-Some-clause-wrong : goal.returns-in-Some-clause-wrong
returns-in-Some-clause-wrong c = λ ram given m shows.
    let records = c.args.records.now in
    let now = c.loop-i.invariant ram given m shows in
    up_to_wrong ram given m c.args.hart.now c.loop-i.hart (part_at c.loop-i.memory) records c.loop-i.i c.index-records-i.result c.in-Some.kind
    (split_at records c.loop-i.i c.index-records-i.result c.loop-i-test.true c.index-records-i.is) now (c.in-Some.ensures.wrong ram given now.memory now.shows c.in-Some.kind refl)

pub loop-i-preserved : goal.loop-i-preserved
loop-i-preserved c = λ ram given m shows.
    let records = c.args.records.now in
    let now = c.loop-i.invariant ram given m shows in
    up_to_next ram given m c.args.hart.now c.loop-i.hart c.take.new.hart (part_at c.loop-i.memory) (part_at c.take.new.memory) records c.loop-i.i c.index-records-i.result
    (split_at records c.loop-i.i c.index-records-i.result c.loop-i-test.true c.index-records-i.is) now (c.take.ensures.right ram given now.memory now.shows c.in_default.is)
    (c.take.ensures.memory c.in_default.is) (c.take.ensures.words c.in_default.is)
