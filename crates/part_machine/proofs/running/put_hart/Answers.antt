use Rattle.std.proofs.Common.{map, ap, ◌∙◌, set}
use Rattle.std.proofs.lemmas.List.{map-set}
use Rattle.part_machine.specs.Whole.{Bare, bare}
use Rattle.part_machine.proofs.running.put_hart.Goals as goal

pub returns : goal.returns
returns c = map-set bare c.args.harts.now.items c.args.k c.copy_of.result ∙ ap (λ (b : Bare). set (map bare c.args.harts.now.items) c.args.k b) c.copy_of.ensures
