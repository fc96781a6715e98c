use Rattle.std.proofs.Common.{◌≡◌, ℕ, List, refl, map, sym, subst, ap, ◌∙◌}
use Rattle.std.specs.Prelude.{All}
use Rattle.rv_mem.specs.Part.{part_at}
use Rattle.foot_map.specs.Touches.{has}
use Rattle.part_machine.specs.declared.notes.Note.{Note}
use Rattle.part_machine.specs.declared.entry.Entry.{Entry}
use Rattle.part_machine.specs.declared.entry.Entry.TheVariants.{Step}
use Rattle.part_machine.specs.Notes.{IsKnownAt, taken_out, put_back}
use Rattle.part_machine.specs.Whole.{bare, Whole}
use Rattle.part_machine.specs.Undo.{whole_of, undone, IsWithin}
use Rattle.part_machine.proofs.Undoing.{same_whole}
use Rattle.part_machine.proofs.running.Running.undo.Goals as goal

pub put_back_all-requires : goal.put_back_all-requires
put_back_all-requires c =
    let w : Whole = whole_of c.args.self.now in
    let within : IsWithin (Step c.in-Step.hart c.in-Step.now c.in-Step.notes) w = subst (λ (e : Entry). IsWithin e w) c.in-Step.is c.requires in
    subst (λ (ns : List Note). All (λ x. IsKnownAt (part_at c.args.self.now.memory) x.addr) ns) (sym c.as_slice.ensures) within.2

pub returns-in-Step : goal.returns-in-Step
returns-in-Step c =
    let w : Whole = whole_of c.args.self.now in
    let k : ℕ = c.in-Step.hart in
    let told : undone (Step k c.in-Step.now c.in-Step.notes) w ≡ undone c.args.entry.now w = ap (λ (e : Entry). undone e w) (sym c.in-Step.is) in
    let new : Whole = record {
      ram = c.args.self.now.ram;
      first = map bare c.args.self.now.first.items;
      words = c.args.self.now.words.items;
      traces = c.drop_record.new.traces.items;
      harts = map bare c.put_hart-in-Step.new.harts.items;
      memory = part_at c.put_back_all.new.memory;
      feet = has c.remove_all.new.feet;
      names = c.args.self.now.names.items;
      choices = c.args.self.now.choices.items;
      dropped = c.args.self.now.dropped.items;
    } in
    same_whole new (undone (Step k c.in-Step.now c.in-Step.notes) w) (record {
      ram = refl;
      first = refl;
      words = refl;
      traces = c.drop_record.ensures;
      harts = c.put_hart-in-Step.ensures;
      memory = λ n. c.put_back_all.ensures n ∙ ap (λ (ns : List Note). put_back ns (part_at c.args.self.now.memory) n) c.as_slice.ensures;
      feet = λ b h r. c.remove_all.ensures b h r ∙ ap (λ (ns : List Note). taken_out k ns (has c.args.self.now.feet) b h r) c.as_slice-in-Step.ensures;
      names = refl;
      choices = refl;
      dropped = refl;
    }) ∙ told
