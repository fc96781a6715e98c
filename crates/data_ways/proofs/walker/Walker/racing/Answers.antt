use Rattle.std.proofs.Common.{ℕ, List, ap, ◌∙◌}
use Rattle.dom_set.specs.Elements.{is_matching}
use Rattle.data_bytes.proofs.Sets.{elements_are}
use Rattle.data_ways.proofs.walker.Walker.racing.Goals as goal

pub returns : goal.returns
returns g c = λ ea small.
    elements_are (is_matching c.deref.result.now) c.in_ok-racing.racing c.in_ok-racing.ensures ea small
    ∙ ap (λ (ps : List (ℕ × ℕ)). is_matching ps ea) c.deref.ensures.value ∙ c.in_ok-patterns.ensures ea small
