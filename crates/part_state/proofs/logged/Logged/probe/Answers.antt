use Rattle.std.proofs.Common.{ℕ, List, reverse, subst}
use Rattle.rv_script.specs.declared.access.Access.{Access}
use Rattle.part_clash.specs.Clashes.{IsLeastStepClash, HasNoStepClash}
use Rattle.part_machine.specs.Whole.{Whole, hart_of, fixed_in, next_of}
use Rattle.part_machine.specs.Undo.{whole_of}
use Rattle.part_state.specs.Meaning.{IsTest}
use Rattle.part_state.proofs.Kept.{now_test}
use Rattle.part_state.proofs.Probes.{IsDid, look_did, ready, told_record, clear, clashes, least_of}
use Rattle.part_state.proofs.logged.Logged.probe.Goals as goal

pub returns-in-Some : goal.returns-in-Some
returns-in-Some c =
    let k : ℕ = c.args.hart in
    let w : Whole = whole_of c.args.self.now.machine in
    let test : IsTest w = now_test (reverse c.args.self.now.log) w c.requires.kept.tests in
    let did : IsDid (fixed_in (hart_of k w) w.memory) (next_of k w) c.in-Did.done = look_did c.hart.result.now w.memory c.look.result (hart_of k w) c.in-Did.done c.look.ensures.answer c.hart.ensures c.in-Did.is in
    let least : IsLeastStepClash w.feet k c.in-Did.done.accesses c.in-Some.clash = subst (λ (xs : List Access). IsLeastStepClash w.feet k xs c.in-Some.clash) c.as_slice.ensures c.in-Some.ensures.some in (
      ready k w c.in-Did.done did,
      clashes k w c.in-Did.done c.in-Some.clash test did least,
      least_of k w c.in-Did.done c.in-Some.clash did least,
    )

pub returns-in-None : goal.returns-in-None
returns-in-None c =
    let k : ℕ = c.args.hart in
    let w : Whole = whole_of c.args.self.now.machine in
    let test : IsTest w = now_test (reverse c.args.self.now.log) w c.requires.kept.tests in
    let did : IsDid (fixed_in (hart_of k w) w.memory) (next_of k w) c.in-Did.done = look_did c.hart.result.now w.memory c.look.result (hart_of k w) c.in-Did.done c.look.ensures.answer c.hart.ensures c.in-Did.is in
    let none : HasNoStepClash w.feet k c.in-Did.done.accesses = subst (λ (xs : List Access). HasNoStepClash w.feet k xs) c.as_slice.ensures c.in-None.ensures.none in (
      ready k w c.in-Did.done did,
      clear k w c.in-Did.done test did none,
      told_record k w c.in-Did.done did,
    )
