use Rattle.std.proofs.Common.{reverse, subst}
use Rattle.rv_script.specs.declared.place.Place.{Place}
use Rattle.rv_script.specs.declared.place.Place.TheVariants.{Reg, Csr, Word}
use Rattle.part_machine.specs.Whole.{Whole, hart_of}
use Rattle.part_machine.specs.Undo.{whole_of}
use Rattle.part_state.specs.Meaning.{CanStart}
use Rattle.part_state.proofs.Kept.{now_test}
use Rattle.part_state.proofs.Meanings.{untouched_none, word_untouched}
use Rattle.part_state.proofs.logged.Logged.start_place.Goals as goal

pub start_register-requires-clause-register : goal.start_register-requires-clause-register
start_register-requires-clause-register c =
    let can : CanStart c.args.hart (Reg c.in-Reg.n) c.args.value (whole_of c.args.self.now.machine) = subst (λ (p : Place). CanStart c.args.hart p c.args.value (whole_of c.args.self.now.machine)) c.in-Reg.is c.requires.start in can.startable

pub start_register-requires-clause-untouched : goal.start_register-requires-clause-untouched
start_register-requires-clause-untouched c =
    let can : CanStart c.args.hart (Reg c.in-Reg.n) c.args.value (whole_of c.args.self.now.machine) = subst (λ (p : Place). CanStart c.args.hart p c.args.value (whole_of c.args.self.now.machine)) c.in-Reg.is c.requires.start in can.unknown

pub start_csr-requires-clause-untouched : goal.start_csr-requires-clause-untouched
start_csr-requires-clause-untouched c =
    let w : Whole = whole_of c.args.self.now.machine in
    let can : CanStart c.args.hart (Csr c.in-Csr.addr) c.args.value w = subst (λ (p : Place). CanStart c.args.hart p c.args.value w) c.in-Csr.is c.requires.start in
    untouched_none (hart_of c.args.hart w).csrs c.in-Csr.addr can.startable.0 can.startable.1 can.unknown

pub start_csr-requires-clause-legal : goal.start_csr-requires-clause-legal
start_csr-requires-clause-legal c =
    let can : CanStart c.args.hart (Csr c.in-Csr.addr) c.args.value (whole_of c.args.self.now.machine) = subst (λ (p : Place). CanStart c.args.hart p c.args.value (whole_of c.args.self.now.machine)) c.in-Csr.is c.requires.start in can.legal

pub start_word-requires-clause-aligned : goal.start_word-requires-clause-aligned
start_word-requires-clause-aligned c =
    let can : CanStart c.args.hart (Word c.in-Word.addr) c.args.value (whole_of c.args.self.now.machine) = subst (λ (p : Place). CanStart c.args.hart p c.args.value (whole_of c.args.self.now.machine)) c.in-Word.is c.requires.start in can.startable.0

pub start_word-requires-clause-untouched : goal.start_word-requires-clause-untouched
start_word-requires-clause-untouched c =
    let w : Whole = whole_of c.args.self.now.machine in
    let can : CanStart c.args.hart (Word c.in-Word.addr) c.args.value w = subst (λ (p : Place). CanStart c.args.hart p c.args.value w) c.in-Word.is c.requires.start in
    word_untouched c.in-Word.addr w (now_test (reverse c.args.self.now.log) w c.requires.kept.tests) can.startable.1 can.unknown
