use Rattle.std.proofs.Common.{length, sym, ap, ◌∙◌}
use Rattle.rv_mem.specs.Ram.{in_ram}
use Rattle.part_laws.specs.Laws.{IsMade}
use Rattle.part_machine.specs.Whole.{Whole}
use Rattle.part_state.specs.Meaning.{partial_of}
use Rattle.part_state.specs.Told.{Tells}
use Rattle.part_state.specs.State.{State}
use Rattle.part_state.proofs.States.{told_here}
use Rattle.part_state.proofs.part.Part.finish.Goals as goal

pub certificate-requires-clause-harts : goal.certificate-requires-clause-harts
certificate-requires-clause-harts c = c.requires.harts ∙ sym (ap (λ (s : State). length s.now.harts) c.self.view_is)

pub certificate-requires-clause-ram : goal.certificate-requires-clause-ram
certificate-requires-clause-ram c = λ n. c.requires.ram n ∙ sym (ap (λ (s : State). in_ram s.now.ram n) c.self.view_is)

pub returns-clause-tells : goal.returns-clause-tells
returns-clause-tells c = told_here (λ (w : Whole). Tells c.args.t w c.in_ok-certificate.certificate) c.args.self.now c.self.inside.inner c.self.view_is c.self.invariant c.in_ok-certificate.ensures.tells

pub returns-clause-made : goal.returns-clause-made
returns-clause-made c = told_here (λ (w : Whole). IsMade (partial_of w) c.in_ok-certificate.certificate) c.args.self.now c.self.inside.inner c.self.view_is c.self.invariant c.in_ok-certificate.ensures.made
