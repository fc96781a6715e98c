use Rattle.std.proofs.Common.{◌≡◌, ℕ, List, [], length, map, reverse, refl, sym, ap, ◌∙◌, subst, arith}
use Rattle.std.specs.Prelude.{replicate}
use Rattle.std.proofs.lemmas.List.{length-map}
use Rattle.rv_mem.specs.Part.{part_at}
use Rattle.rv_hart.specs.declared.hart.Hart.{Hart}
use Rattle.foot_map.specs.Touches.{has}
use Rattle.part_machine.specs.declared.entry.Entry.{Entry}
use Rattle.part_machine.specs.Whole.{bare, Whole, IsNew}
use Rattle.part_machine.specs.Undo.{AreWithin}
use Rattle.part_state.specs.Internal.Parts.{AreTests}
use Rattle.part_state.proofs.News.{new_test}
use Rattle.part_state.proofs.logged.Logged.new.Goals as goal

pub returns-clause-kept : goal.returns-clause-kept
returns-clause-kept c =
    let w : Whole = record {
      ram = c.in_ok-own.own;
      first = map bare c.in_ok-first.first.items;
      words = c.new-2.result.items;
      traces = c.in_ok-first.traces.items;
      harts = map bare c.args.harts.items;
      memory = part_at c.in_ok-memory.memory;
      feet = has c.new-3.result;
      names = c.in_ok-names.names.items;
      choices = c.new-4.result.items;
      dropped = c.new-5.result.items;
    } in
    let size : length (map bare c.args.harts.items) ≡ length c.args.harts.items = length-map c.args.harts.items bare in
    let new : IsNew (map bare c.args.harts.items) c.args.ram.now c.args.names w = record {
      ram_is = c.in_ok-own.ensures;
      first = c.in_ok-first.ensures.first ∙ ap (λ (hs : List Hart). map bare hs) c.deref.ensures.value;
      now = refl;
      words = c.new-2.ensures.items;
      memory = c.in_ok-memory.ensures;
      traces = c.in_ok-first.ensures.traces ∙ ap (λ (hs : List Hart). replicate (length hs) []) c.deref.ensures.value ∙ ap (λ (n : ℕ). replicate n []) (sym size);
      feet = c.new-3.ensures.none;
      names_are = c.in_ok-names.ensures;
      choices = c.new-4.ensures.items;
      dropped = c.new-5.ensures.items;
    } in
    let none : reverse c.new-6.result ≡ [] = ap (λ (l : List Entry). reverse l) c.new-6.ensures in
    record {
      within = subst (λ (l : List Entry). AreWithin l w) (sym none) tt;
      tests = subst (λ (l : List Entry). AreTests l w) (sym none) (new_test (map bare c.args.harts.items) c.args.ram.now c.args.names w new (λ k l. c.requires.fit k (omega (arith, l, size))) (λ k l. c.requires.numbers k (omega (arith, l, size))));
    }
