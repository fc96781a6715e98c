use Rattle.std.proofs.Common.{◌≡◌, ◌∙◌, sym}
use Rattle.foot_map.specs.Touches.{has}
use Rattle.part_machine.specs.Whole.{Whole}
use Rattle.part_state.specs.Meaning.{IsTest}
use Rattle.part_state.specs.State.{here}
use Rattle.part_state.proofs.States.{here_test, told_here}
use Rattle.part_state.proofs.part.Part.feet.Goals as goal

pub returns : goal.returns
returns c = λ b h r.
    let test : IsTest (here c.args.self.now) = here_test c.args.self.now c.self.inside.inner c.self.view_is c.self.invariant in
    let same : has c.feet.result.now b h r ≡ (here c.args.self.now).feet b h r = told_here (λ (w : Whole). has c.feet.result.now b h r ≡ w.feet b h r) c.args.self.now c.self.inside.inner c.self.view_is c.self.invariant (c.feet.ensures b h r) in
    (λ t. (test.foot b h r).0 (sym same ∙ t), λ x. same ∙ (test.foot b h r).1 x)
