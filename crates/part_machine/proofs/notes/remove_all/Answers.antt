use Rattle.std.proofs.Common.{ℕ, ◌+◌, List, drop, get_or, sym, ap, ◌∙◌, arith}
use Rattle.std.proofs.lemmas.List.{drop_all, drop_more}
use Rattle.rv_script.specs.declared.access.Role.TheVariants.{Fetch}
use Rattle.foot_map.specs.Touches.{has}
use Rattle.part_machine.specs.declared.notes.Note.{Note}
use Rattle.part_machine.specs.Notes.{taken_out}
use Rattle.part_machine.proofs.Noting.{take_step, take_none}
use Rattle.part_machine.proofs.notes.remove_all.Goals as goal

abbrev no_note : Note
no_note = record { role = Fetch; addr = 0; mask = 0; word = 0 }

pub loop-note-preserved : goal.loop-note-preserved
loop-note-preserved c = λ b h r.
    let ns : List Note = c.args.notes.now in
    let i : ℕ = c.loop-note.note-index in
    let x : Note = get_or ns i no_note in
    take_step c.args.hart x (drop (i + 1) ns) c.loop-note.feet c.remove.new.self c.remove.ensures.removed b h r
    ∙ ap (λ (xs : List Note). taken_out c.args.hart xs (has c.loop-note.feet) b h r) (sym (drop_more ns i no_note c.loop-note-test.true))
    ∙ c.loop-note.invariant b h r

pub returns : goal.returns
returns c = λ b h r.
    let ns : List Note = c.args.notes.now in
    sym (take_none c.args.hart (has c.loop-note.feet) b h r)
    ∙ ap (λ (xs : List Note). taken_out c.args.hart xs (has c.loop-note.feet) b h r) (sym (drop_all c.loop-note.note-index ns (omega (arith, c.loop-note-test.false))))
    ∙ c.loop-note.invariant b h r
