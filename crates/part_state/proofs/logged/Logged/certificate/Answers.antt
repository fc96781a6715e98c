use Rattle.std.proofs.Common.{reverse}
use Rattle.part_machine.specs.Whole.{Whole}
use Rattle.part_machine.specs.Undo.{whole_of}
use Rattle.part_laws.specs.Laws.{IsMade}
use Rattle.part_laws.proofs.Finish.{finish}
use Rattle.part_state.specs.Meaning.{partial_of, IsTest}
use Rattle.part_state.proofs.Kept.{now_test}
use Rattle.part_state.proofs.Certificates.{given_inside, given_known, made_of, well_formed_of}
use Rattle.part_state.proofs.logged.Logged.certificate.Goals as goal

pub certificate_of-requires-clause-small : goal.certificate_of-requires-clause-small
certificate_of-requires-clause-small c = λ n v e. ((now_test (reverse c.args.self.now.log) (whole_of c.args.self.now.machine) c.requires.kept.tests).small n v e).0

pub certificate_of-requires-clause-inside : goal.certificate_of-requires-clause-inside
certificate_of-requires-clause-inside c = given_inside (whole_of c.args.self.now.machine) (now_test (reverse c.args.self.now.log) (whole_of c.args.self.now.machine) c.requires.kept.tests)

pub certificate_of-requires-clause-known : goal.certificate_of-requires-clause-known
certificate_of-requires-clause-known c = given_known (whole_of c.args.self.now.machine) (now_test (reverse c.args.self.now.log) (whole_of c.args.self.now.machine) c.requires.kept.tests)

pub returns-clause-made : goal.returns-clause-made
returns-clause-made c =
    let w : Whole = whole_of c.args.self.now.machine in
    let e = c.in_ok-certificate.ensures in
    made_of c.args.t w c.in_ok-certificate.certificate (now_test (reverse c.args.self.now.log) w c.requires.kept.tests) c.requires.ram e.tells e.start e.finals

pub returns-clause-sound : goal.returns-clause-sound
returns-clause-sound c =
    let w : Whole = whole_of c.args.self.now.machine in
    let test : IsTest w = now_test (reverse c.args.self.now.log) w c.requires.kept.tests in
    let e = c.in_ok-certificate.ensures in
    finish (partial_of w) c.in_ok-certificate.certificate test.test (made_of c.args.t w c.in_ok-certificate.certificate test c.requires.ram e.tells e.start e.finals)

pub returns-clause-well_formed : goal.returns-clause-well_formed
returns-clause-well_formed c = λ law parses fits.
    let w : Whole = whole_of c.args.self.now.machine in
    let test : IsTest w = now_test (reverse c.args.self.now.log) w c.requires.kept.tests in
    let e = c.in_ok-certificate.ensures in
    let made : IsMade (partial_of w) c.in_ok-certificate.certificate = made_of c.args.t w c.in_ok-certificate.certificate test c.requires.ram e.tells e.start e.finals in
    well_formed_of c.args.t w c.in_ok-certificate.certificate law test c.requires.harts made e.tells e.start e.finals e.last e.choices parses fits
