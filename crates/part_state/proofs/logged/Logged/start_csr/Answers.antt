use Rattle.std.proofs.Common.{reverse, sym, subst}
use Rattle.part_machine.specs.Whole.{Bare, Whole, first_of, hart_of, with_csr}
use Rattle.part_machine.specs.Undo.{whole_of}
use Rattle.part_state.proofs.Wholes.{changed_on, within_on}
use Rattle.part_machine.proofs.Changes.{place_back, place_within}
use Rattle.part_state.specs.Meaning.{IsTest}
use Rattle.part_state.proofs.Kept.{tests_on, now_test}
use Rattle.part_state.proofs.Meanings.{test_csr, csr_untouched}
use Rattle.part_state.proofs.logged.Logged.start_csr.Goals as goal

pub returns-clause-kept : goal.returns-clause-kept
returns-clause-kept c =
    let old : Whole = whole_of c.args.self.now.machine in
    let new : Whole = whole_of c.give_csr.new.self in
    let x : Bare = with_csr c.args.addr c.args.value (first_of c.args.hart old) in
    let y : Bare = with_csr c.args.addr c.args.value (hart_of c.args.hart old) in
    record {
      within = within_on c.args.self.now.log c.push.new.self c.place_entry-entry.result old new c.in_ok-push.ensures.ok
          (place_back c.args.hart x y old new c.place_entry-entry.result c.give_csr.ensures c.place_entry-entry.ensures)
          (place_within c.args.hart x y old new c.place_entry-entry.result c.give_csr.ensures c.place_entry-entry.ensures c.requires.hart) c.requires.kept.within;
      tests = tests_on c.args.self.now.log c.push.new.self c.place_entry-entry.result old new c.in_ok-push.ensures.ok
          (place_back c.args.hart x y old new c.place_entry-entry.result c.give_csr.ensures c.place_entry-entry.ensures)
          (subst IsTest (sym c.give_csr.ensures) (test_csr c.args.hart c.args.addr c.args.value old (now_test (reverse c.args.self.now.log) old c.requires.kept.tests) c.requires.hart (csr_untouched c.args.hart c.args.addr old (now_test (reverse c.args.self.now.log) old c.requires.kept.tests) c.requires.hart c.requires.untouched))) c.requires.kept.tests;
    }

pub returns-clause-earlier : goal.returns-clause-earlier
returns-clause-earlier c =
    let old : Whole = whole_of c.args.self.now.machine in
    let new : Whole = whole_of c.give_csr.new.self in
    let x : Bare = with_csr c.args.addr c.args.value (first_of c.args.hart old) in
    let y : Bare = with_csr c.args.addr c.args.value (hart_of c.args.hart old) in
    changed_on c.args.self.now.log c.push.new.self c.place_entry-entry.result old new c.in_ok-push.ensures.ok
    (place_back c.args.hart x y old new c.place_entry-entry.result c.give_csr.ensures c.place_entry-entry.ensures)

pub give_csr-requires-clause-untouched : goal.give_csr-requires-clause-untouched
give_csr-requires-clause-untouched c =
    csr_untouched c.args.hart c.args.addr (whole_of c.args.self.now.machine) (now_test (reverse c.args.self.now.log) (whole_of c.args.self.now.machine) c.requires.kept.tests) c.requires.hart c.requires.untouched
