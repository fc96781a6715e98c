use Rattle.std.proofs.Common.{◌≡◌, reverse, sym, subst, ap, ◌∙◌}
use Rattle.part_machine.specs.declared.entry.Entry.TheVariants.{Wish}
use Rattle.part_machine.specs.Whole.{Whole}
use Rattle.part_machine.specs.Undo.{whole_of, undone}
use Rattle.part_state.specs.Meaning.{IsTest}
use Rattle.part_state.proofs.Wholes.{changed_on, within_on}
use Rattle.part_state.proofs.Kept.{tests_on, now_test, test_dropped, wish_back}
use Rattle.part_state.proofs.logged.Logged.drop_wish.Goals as goal

pub returns-in-Ok-clause-kept : goal.returns-in-Ok-clause-kept
returns-in-Ok-clause-kept c =
    let old : Whole = whole_of c.args.self.now.machine in
    let new : Whole = whole_of c.add_wish.new.self in
    let back : undone Wish new ≡ old = ap (λ (w : Whole). undone Wish w) c.in-Ok.ensures.added ∙ wish_back c.args.wish old in
    record {
      within = within_on c.args.self.now.log c.push.new.self Wish old new c.in_ok-push.ensures.ok back tt c.requires.within;
      tests = tests_on c.args.self.now.log c.push.new.self Wish old new c.in_ok-push.ensures.ok back
          (subst IsTest (sym c.in-Ok.ensures.added) (test_dropped c.args.wish old (now_test (reverse c.args.self.now.log) old c.requires.tests))) c.requires.tests;
    }

pub returns-in-Ok-clause-earlier : goal.returns-in-Ok-clause-earlier
returns-in-Ok-clause-earlier c =
    let old : Whole = whole_of c.args.self.now.machine in
    let new : Whole = whole_of c.add_wish.new.self in
    let back : undone Wish new ≡ old = ap (λ (w : Whole). undone Wish w) c.in-Ok.ensures.added ∙ wish_back c.args.wish old in
    changed_on c.args.self.now.log c.push.new.self Wish old new c.in_ok-push.ensures.ok back
