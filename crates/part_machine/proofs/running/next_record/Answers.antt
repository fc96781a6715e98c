use Rattle.std.proofs.Common.{◌≡◌, map, get_or, sym, ap, ◌∙◌}
use Rattle.rv_mem.specs.Part.{part_at}
use Rattle.rv_hart.specs.declared.record.Stepped.TheVariants.{Did}
use Rattle.part_machine.specs.Whole.{Bare, bare, no_hart, record_in}
use Rattle.part_machine.proofs.Changes.{map_at}
use Rattle.part_machine.proofs.Stepping.{stepped_record}
use Rattle.part_machine.proofs.running.next_record.Goals as goal

pub returns-clause-record : goal.returns-clause-record
returns-clause-record c = λ xs d next.
    let b : Bare = get_or (map bare c.args.harts.now.items) c.args.k no_hart in
    let at = part_at c.args.memory.now in
    let is = map_at bare c.args.harts.now.items c.args.k c.index.result.now no_hart c.requires.hart c.index.ensures in
    let told = stepped_record c.index.result.now at c.look.result b xs d c.look.ensures.answer is next in
    let same : Did c.in-Did.done ≡ Did (record_in (bare c.index.result.now) at xs d) = sym c.in-Did.is ∙ told in
    let done : c.in-Did.done ≡ record_in (bare c.index.result.now) at xs d = cc same in
    done ∙ ap (λ (q : Bare). record_in q at xs d) is
