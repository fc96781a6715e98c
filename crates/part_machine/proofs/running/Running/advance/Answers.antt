use Rattle.std.proofs.Common.{◌≡◌, ℕ, [], ◌∷◌, ◌++◌, map, set, sym, subst, ap, ◌∙◌}
use Rattle.std.specs.Prelude.{All}
use Rattle.rv_mem.specs.Part.{part_at}
use Rattle.rv_script.specs.Folds.{Answer.Does}
use Rattle.rv_hart.specs.declared.record.Record.{Record}
use Rattle.rv_hart.specs.Changes.{IsSoundWrite}
use Rattle.rv_hart.specs.Effects.{IsInWord, seen_after}
use Rattle.part_machine.specs.Notes.{IsKnownAt, AreNotes, touched}
use Rattle.part_machine.specs.Whole.{bare, Whole, hart_of, records_of, record_in, bare_after, next_of, stepped}
use Rattle.part_machine.specs.Undo.{whole_of}
use Rattle.part_machine.proofs.Undoing.{same_whole}
use Rattle.part_machine.proofs.Stepping.{all_known}
use Rattle.part_machine.proofs.running.Running.advance.Goals as goal

pub prepare-requires-clause-known : goal.prepare-requires-clause-known
prepare-requires-clause-known c =
    let w : Whole = whole_of c.args.self.now in
    let ready = c.requires.ready in
    let is : c.next_record-done.result ≡ record_in (hart_of c.args.hart w) w.memory ready.accesses ready.change = c.next_record-done.ensures.record ready.accesses ready.change ready.does in
    subst (λ (r : Record). All (λ x. IsKnownAt w.memory x.addr) r.accesses) (sym is) (all_known (hart_of c.args.hart w) w.memory ready.accesses ready.change ready.does)

pub returns-clause-done : goal.returns-clause-done
returns-clause-done c = λ xs d next.
    let k : ℕ = c.args.hart in
    let w : Whole = whole_of c.args.self.now in
    let v : Whole = whole_of c.prepare.new.self in
    let is : c.next_record-done.result ≡ record_in (hart_of k w) w.memory xs d = c.next_record-done.ensures.record xs d next in
    let prep = c.in_ok-prepare.ensures.prepared in
    let next' : next_of k v ≡ Does xs d = ap (λ (u : Whole). next_of k u) prep ∙ next in
    let new : Whole = record {
      ram = v.ram;
      first = v.first;
      words = v.words;
      traces = v.traces;
      harts = map bare c.do_step.new.harts.items;
      memory = part_at c.do_step.new.memory;
      feet = v.feet;
      names = v.names;
      choices = v.choices;
      dropped = v.dropped;
    } in (
      same_whole new (stepped k xs d w) (record {
        ram = ap (λ (u : Whole). u.ram) prep;
        first = ap (λ (u : Whole). u.first) prep;
        words = ap (λ (u : Whole). u.words) prep;
        traces = ap (λ (u : Whole). u.traces) prep ∙ ap (λ (r : Record). set w.traces k (records_of k w ++ r ∷ [])) is;
        harts = c.do_step.ensures.hart xs d next' ∙ ap (λ (u : Whole). set u.harts k (bare_after d (hart_of k u))) prep;
        memory = λ n. c.do_step.ensures.memory xs d next' n ∙ ap (λ (u : Whole). seen_after xs u.memory n) prep;
        feet = λ b h q. ap (λ (u : Whole). u.feet b h q) prep ∙ ap (λ (r : Record). touched k r.accesses w.feet b h q) is;
        names = ap (λ (u : Whole). u.names) prep;
        choices = ap (λ (u : Whole). u.choices) prep;
        dropped = ap (λ (u : Whole). u.dropped) prep;
      }),
      subst (λ (r : Record). AreNotes k r.accesses w.memory w.feet v.feet c.prepare.new.notes) is c.in_ok-prepare.ensures.noted,
      subst (λ (r : Record). IsSoundWrite r.rd) is c.next_record-done.ensures.rd,
      subst (λ (r : Record). All IsInWord r.accesses) is c.next_record-done.ensures.words,
    )

pub do_step-requires-clause-ready : goal.do_step-requires-clause-ready
do_step-requires-clause-ready c =
    let ready = c.requires.ready in (ready.accesses, ready.change, ap (λ (u : Whole). next_of c.args.hart u) c.in_ok-prepare.ensures.prepared ∙ ready.does)

pub returns-clause-record : goal.returns-clause-record
returns-clause-record c = λ xs d next.
    let k : ℕ = c.args.hart in
    let prep = c.in_ok-prepare.ensures.prepared in
    c.do_step.ensures.record xs d (ap (λ (u : Whole). next_of k u) prep ∙ next) ∙ ap (λ (u : Whole). record_in (hart_of k u) u.memory xs d) prep
