use Rattle.std.proofs.Common.{reverse, sym, subst}
use Rattle.part_machine.specs.declared.entry.Entry.{Entry}
use Rattle.part_machine.specs.declared.entry.Entry.TheVariants.{Step, Choice}
use Rattle.part_machine.specs.Whole.{Whole}
use Rattle.part_machine.specs.Undo.{whole_of}
use Rattle.part_state.proofs.Wholes.{changed_on, within_on}
use Rattle.part_state.proofs.Steps.{last_set, step_back, step_within}
use Rattle.part_state.specs.Meaning.{IsTest}
use Rattle.part_state.proofs.Kept.{tests_on, now_test}
use Rattle.part_state.proofs.Meanings.{test_step}
use Rattle.part_state.proofs.logged.Logged.advance.Goals as goal

pub returns-in-Ok-clause-kept : goal.returns-in-Ok-clause-kept
returns-in-Ok-clause-kept c =
    let old : Whole = whole_of c.args.self.now.machine in
    let new : Whole = whole_of c.advance.new.self in
    let ready = c.requires.ready in
    let done = c.in-Ok.ensures.done ready.accesses ready.change ready.does in
    let e : Entry = Step c.args.hart c.copy_now-now.result c.advance.new.notes in
    record {
      within = within_on c.args.self.now.log c.set_last.new.self e old new (last_set c.args.self.now.log c.push.new.self c.set_last.new.self Choice e c.set_last.ensures c.in_ok-push.ensures.ok)
          (step_back c.args.hart ready.accesses ready.change old new c.copy_now-now.result c.advance.new.notes done.0 done.1 c.copy_now-now.ensures c.requires.hart)
          (step_within c.args.hart ready.accesses ready.change old new c.copy_now-now.result c.advance.new.notes done.0 done.1 c.requires.hart) c.requires.kept.within;
      tests = tests_on c.args.self.now.log c.set_last.new.self e old new (last_set c.args.self.now.log c.push.new.self c.set_last.new.self Choice e c.set_last.ensures c.in_ok-push.ensures.ok)
          (step_back c.args.hart ready.accesses ready.change old new c.copy_now-now.result c.advance.new.notes done.0 done.1 c.copy_now-now.ensures c.requires.hart)
          (subst IsTest (sym done.0) (test_step c.args.hart ready.accesses ready.change old (now_test (reverse c.args.self.now.log) old c.requires.kept.tests) c.requires.hart ready.does done.2 done.3 c.requires.clear)) c.requires.kept.tests;
    }

pub returns-in-Ok-clause-earlier : goal.returns-in-Ok-clause-earlier
returns-in-Ok-clause-earlier c =
    let old : Whole = whole_of c.args.self.now.machine in
    let new : Whole = whole_of c.advance.new.self in
    let ready = c.requires.ready in
    let done = c.in-Ok.ensures.done ready.accesses ready.change ready.does in
    let e : Entry = Step c.args.hart c.copy_now-now.result c.advance.new.notes in
    changed_on c.args.self.now.log c.set_last.new.self e old new (last_set c.args.self.now.log c.push.new.self c.set_last.new.self Choice e c.set_last.ensures c.in_ok-push.ensures.ok)
    (step_back c.args.hart ready.accesses ready.change old new c.copy_now-now.result c.advance.new.notes done.0 done.1 c.copy_now-now.ensures c.requires.hart)
