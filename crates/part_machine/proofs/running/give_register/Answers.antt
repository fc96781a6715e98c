use Rattle.std.proofs.Common.{map, set, ap, ◌∙◌}
use Rattle.std.proofs.lemmas.List.{map-set}
use Rattle.part_machine.specs.Whole.{Bare, bare, no_hart, with_register}
use Rattle.part_machine.proofs.Changes.{map_at}
use Rattle.part_machine.proofs.running.give_register.Goals as goal

pub returns : goal.returns
returns c =
    map-set bare c.args.harts.now.items c.args.k _
    ∙ ap (λ (b : Bare). set (map bare c.args.harts.now.items) c.args.k (with_register c.args.n c.args.value b)) (map_at bare c.args.harts.now.items c.args.k c.index_mut.result.now no_hart c.requires.hart c.index_mut.ensures.value)
