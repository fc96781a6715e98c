use Rattle.part_machine.specs.Whole.{Whole}
use Rattle.tpl_admit.specs.declared.certificate.Cert.{Cert}
use Rattle.tpl_admit.specs.Validity.{IsSound}
use Rattle.part_laws.specs.Laws.{IsMade}
use Rattle.part_state.specs.Meaning.{partial_of}
use Rattle.part_state.proofs.States.{told_here}
use Rattle.part_state.proofs.part.Part.certificates_are_sound.Goals as goal

pub returns : goal.returns
returns c = told_here (λ (w : Whole). (e : Cert) → IsMade (partial_of w) e → IsSound e) c.args.self.now c.self.inside.inner c.self.view_is c.self.invariant c.certificates_are_sound.ensures
