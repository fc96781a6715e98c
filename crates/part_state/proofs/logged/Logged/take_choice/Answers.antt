use Rattle.std.proofs.Common.{◌≡◌, reverse, sym, subst, ap, ◌∙◌}
use Rattle.part_machine.specs.declared.entry.Entry.TheVariants.{Choice}
use Rattle.part_machine.specs.Whole.{Whole}
use Rattle.part_machine.specs.Undo.{whole_of, undone}
use Rattle.part_state.specs.Meaning.{IsTest}
use Rattle.part_state.proofs.Wholes.{changed_on, within_on}
use Rattle.part_state.proofs.Kept.{tests_on, now_test, test_chosen, choice_back}
use Rattle.part_state.proofs.logged.Logged.take_choice.Goals as goal

pub returns-in-Ok-clause-kept : goal.returns-in-Ok-clause-kept
returns-in-Ok-clause-kept c =
    let old : Whole = whole_of c.args.self.now.machine in
    let new : Whole = whole_of c.add_choice.new.self in
    let back : undone Choice new ≡ old = ap (λ (w : Whole). undone Choice w) c.in-Ok.ensures.added ∙ choice_back c.args.way old in
    record {
      within = within_on c.args.self.now.log c.push.new.self Choice old new c.in_ok-push.ensures.ok back tt c.requires.within;
      tests = tests_on c.args.self.now.log c.push.new.self Choice old new c.in_ok-push.ensures.ok back
          (subst IsTest (sym c.in-Ok.ensures.added) (test_chosen c.args.way old (now_test (reverse c.args.self.now.log) old c.requires.tests))) c.requires.tests;
    }

pub returns-in-Ok-clause-earlier : goal.returns-in-Ok-clause-earlier
returns-in-Ok-clause-earlier c =
    let old : Whole = whole_of c.args.self.now.machine in
    let new : Whole = whole_of c.add_choice.new.self in
    let back : undone Choice new ≡ old = ap (λ (w : Whole). undone Choice w) c.in-Ok.ensures.added ∙ choice_back c.args.way old in
    changed_on c.args.self.now.log c.push.new.self Choice old new c.in_ok-push.ensures.ok back
