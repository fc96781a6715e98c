use Rattle.std.proofs.Common.{◌<◌, ℕ, length, refl, ◌∙◌, subst}
use Rattle.std.proofs.lemmas.List.{length-map}
use Rattle.part_machine.specs.Whole.{bare, no_hart}
use Rattle.part_machine.proofs.Changes.{map_at}
use Rattle.part_machine.proofs.running.Running.place_entry.Goals as goal

pub returns : goal.returns
returns c =
    let first : c.args.hart < length c.args.self.now.first.items = subst (λ (n : ℕ). c.args.hart < n) (length-map c.args.self.now.first.items bare) c.requires.first in
    let now : c.args.hart < length c.args.self.now.harts.items = subst (λ (n : ℕ). c.args.hart < n) (length-map c.args.self.now.harts.items bare) c.requires.now in
    record {
      first = c.copy_of.result;
      now = c.copy_of-2.result;
      is = refl;
      first_is = c.copy_of.ensures ∙ map_at bare c.args.self.now.first.items c.args.hart c.index.result.now no_hart first c.index.ensures;
      now_is = c.copy_of-2.ensures ∙ map_at bare c.args.self.now.harts.items c.args.hart c.index-2.result.now no_hart now c.index-2.ensures;
    }
