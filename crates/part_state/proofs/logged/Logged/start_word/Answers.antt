use Rattle.std.proofs.Common.{reverse, sym, subst}
use Rattle.part_machine.specs.declared.entry.Entry.TheVariants.{Word}
use Rattle.part_machine.specs.Whole.{Whole}
use Rattle.part_machine.specs.Undo.{whole_of}
use Rattle.part_state.proofs.Wholes.{changed_on, within_on}
use Rattle.part_machine.proofs.Changes.{word_back, word_within}
use Rattle.part_state.specs.Meaning.{IsTest}
use Rattle.part_state.proofs.Kept.{tests_on, now_test}
use Rattle.part_state.proofs.Meanings.{test_word}
use Rattle.part_state.proofs.logged.Logged.start_word.Goals as goal

pub returns-in-Ok-clause-kept : goal.returns-in-Ok-clause-kept
returns-in-Ok-clause-kept c =
    let old : Whole = whole_of c.args.self.now.machine in
    let new : Whole = whole_of c.give_word.new.self in
    record {
      within = within_on c.args.self.now.log c.push.new.self (Word c.args.addr) old new c.in_ok-push.ensures.ok
          (word_back c.args.addr c.args.value old new c.in-Ok.ensures.given c.requires.untouched)
          (word_within c.args.addr c.args.value old new c.in-Ok.ensures.given c.requires.aligned) c.requires.kept.within;
      tests = tests_on c.args.self.now.log c.push.new.self (Word c.args.addr) old new c.in_ok-push.ensures.ok
          (word_back c.args.addr c.args.value old new c.in-Ok.ensures.given c.requires.untouched)
          (subst IsTest (sym c.in-Ok.ensures.given) (test_word c.args.addr c.args.value old (now_test (reverse c.args.self.now.log) old c.requires.kept.tests) c.ranges.addr.fits c.ranges.value.fits c.requires.untouched)) c.requires.kept.tests;
    }

pub returns-in-Ok-clause-earlier : goal.returns-in-Ok-clause-earlier
returns-in-Ok-clause-earlier c =
    let old : Whole = whole_of c.args.self.now.machine in
    let new : Whole = whole_of c.give_word.new.self in
    changed_on c.args.self.now.log c.push.new.self (Word c.args.addr) old new c.in_ok-push.ensures.ok
    (word_back c.args.addr c.args.value old new c.in-Ok.ensures.given c.requires.untouched)
