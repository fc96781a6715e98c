use Rattle.std.proofs.Common.{map, set, ap, ◌∙◌}
use Rattle.std.proofs.lemmas.List.{map-set}
use Rattle.rv_csr.specs.State.{CsrValues}
use Rattle.part_machine.specs.Whole.{Bare, bare, no_hart, with_csr}
use Rattle.part_machine.proofs.Changes.{map_at}
use Rattle.part_machine.proofs.running.give_csr.Goals as goal

pub returns : goal.returns
returns c =
    map-set bare c.args.harts.now.items c.args.k _
    ∙ ap (λ (v : CsrValues). set (map bare c.args.harts.now.items) c.args.k (record (bare c.index_mut.result.now) { csrs = v })) c.start.ensures.after
    ∙ ap (λ (b : Bare). set (map bare c.args.harts.now.items) c.args.k (with_csr c.args.addr c.args.value b)) (map_at bare c.args.harts.now.items c.args.k c.index_mut.result.now no_hart c.requires.hart c.index_mut.ensures.value)
