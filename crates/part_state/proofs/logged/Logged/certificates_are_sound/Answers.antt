use Rattle.std.proofs.Common.{reverse}
use Rattle.part_machine.specs.Whole.{Whole}
use Rattle.part_machine.specs.Undo.{whole_of}
use Rattle.part_state.specs.Meaning.{partial_of, IsTest}
use Rattle.part_laws.proofs.Finish.{finish}
use Rattle.part_state.proofs.Kept.{now_test}
use Rattle.part_state.proofs.logged.Logged.certificates_are_sound.Goals as goal

pub returns : goal.returns
returns c = λ cert made.
    let w : Whole = whole_of c.args.self.now.machine in
    let test : IsTest w = now_test (reverse c.args.self.now.log) w c.requires.tests in
    finish (partial_of w) cert test.test made
