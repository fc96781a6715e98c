use Rattle.std.proofs.Common.{reverse, sym, subst}
use Rattle.part_machine.specs.declared.entry.Entry.TheVariants.{Name}
use Rattle.part_machine.specs.Whole.{Whole}
use Rattle.part_machine.specs.Undo.{whole_of}
use Rattle.part_state.proofs.Wholes.{changed_on, within_on}
use Rattle.part_machine.proofs.Changes.{name_back, name_within}
use Rattle.part_state.specs.Meaning.{IsTest}
use Rattle.part_state.proofs.Kept.{tests_on, now_test, test_named}
use Rattle.part_state.proofs.logged.Logged.bind.Goals as goal

pub returns-clause-kept : goal.returns-clause-kept
returns-clause-kept c =
    let old : Whole = whole_of c.args.self.now.machine in
    let new : Whole = whole_of c.set_name.new.self in
    record {
      within = within_on c.args.self.now.log c.push.new.self (Name c.args.name) old new c.in_ok-push.ensures.ok
          (name_back c.args.name c.args.value old new c.set_name.ensures c.requires.unbound) (name_within c.args.name c.args.value old new c.set_name.ensures c.requires.unbound) c.requires.kept.within;
      tests = tests_on c.args.self.now.log c.push.new.self (Name c.args.name) old new c.in_ok-push.ensures.ok (name_back c.args.name c.args.value old new c.set_name.ensures c.requires.unbound)
          (subst IsTest (sym c.set_name.ensures) (test_named c.args.name c.args.value old (now_test (reverse c.args.self.now.log) old c.requires.kept.tests))) c.requires.kept.tests;
    }

pub returns-clause-earlier : goal.returns-clause-earlier
returns-clause-earlier c =
    let old : Whole = whole_of c.args.self.now.machine in
    let new : Whole = whole_of c.set_name.new.self in
    changed_on c.args.self.now.log c.push.new.self (Name c.args.name) old new c.in_ok-push.ensures.ok (name_back c.args.name c.args.value old new c.set_name.ensures c.requires.unbound)
