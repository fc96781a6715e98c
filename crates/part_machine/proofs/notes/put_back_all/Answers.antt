use Rattle.std.proofs.Common.{◌≡◌, ℕ, ◌+◌, ◌/◌, List, drop, get_or, sym, ap, ◌∙◌, subst}
use Rattle.std.proofs.Math.Path.{fun_ext}
use Rattle.std.proofs.lemmas.List.{drop_more}
use Rattle.rv_mem.specs.Part.{part_at}
use Rattle.rv_mem.specs.declared.words.Seen.{Seen}
use Rattle.rv_mem.specs.declared.words.Seen.TheVariants.{Known}
use Rattle.rv_script.specs.declared.access.Role.TheVariants.{Fetch}
use Rattle.part_machine.specs.declared.notes.Note.{Note}
use Rattle.part_machine.specs.Notes.{IsKnownAt, put_back, with_seen}
use Rattle.part_machine.proofs.Noting.{known_with}
use Rattle.part_machine.proofs.notes.put_back_all.Goals as goal

abbrev no_note : Note
no_note = record { role = Fetch; addr = 0; mask = 0; word = 0 }

pub loop-note-preserved : goal.loop-note-preserved
loop-note-preserved c =
    let ns : List Note = c.args.notes.now in
    let i : ℕ = c.loop-note.note-index in
    let x : Note = get_or ns i no_note in
    let new : part_at c.put_word.new.memory ≡ with_seen (x.addr / 4) (Known x.word) (part_at c.loop-note.memory) = fun_ext c.put_word.ensures in
    record {
      back = λ n.
          ap (λ (f : ℕ → Seen). put_back (drop (i + 1) ns) f n) new
          ∙ ap (λ (xs : List Note). put_back xs (part_at c.loop-note.memory) n) (sym (drop_more ns i no_note c.loop-note-test.true))
          ∙ c.loop-note.invariant.back n;
      known = λ k d l. let a : Note = get_or ns k d in
          subst (λ (f : ℕ → Seen). IsKnownAt f a.addr) (sym new) (known_with (x.addr / 4) x.word (part_at c.loop-note.memory) a.addr (c.loop-note.invariant.known k d l));
    }
