use Rattle.std.proofs.Common.{◌≡◌, ◌∙◌, List, ℕ, sym, ap}
use Rattle.rv_mem.specs.Ram.{in_ram}
use Rattle.part_machine.specs.Whole.{Whole}
use Rattle.part_state.specs.Meaning.{IsTest}
use Rattle.part_state.specs.State.{here}
use Rattle.part_state.proofs.States.{here_test, told_here}
use Rattle.part_state.proofs.part.Part.ram.Goals as goal

pub returns : goal.returns
returns c = λ n.
    let test : IsTest (here c.args.self.now) = here_test c.args.self.now c.self.inside.inner c.self.view_is c.self.invariant in
    let same : c.ram.result.now ≡ (here c.args.self.now).ram = told_here (λ (w : Whole). c.ram.result.now ≡ w.ram) c.args.self.now c.self.inside.inner c.self.view_is c.self.invariant c.ram.ensures in
    test.there n ∙ ap (λ (ram : List (ℕ × ℕ)). in_ram ram n) (sym same)
