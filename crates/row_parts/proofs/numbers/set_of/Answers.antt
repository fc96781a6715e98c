use Rattle.std.proofs.Common.{ℕ, List, ap, ◌∙◌}
use Rattle.dom_set.specs.Elements.{is_within}
use Rattle.row_parts.proofs.Members.{from_singles}
use Rattle.row_parts.proofs.numbers.set_of.Goals as goal

pub returns-clause-each : goal.returns-clause-each
returns-clause-each c = λ w.
    from_singles c.set_laws.ensures.pass c.set_laws.ensures.tests c.args.values.now c.in_ok-set.set c.deref.result.now w (λ k. (c.type_inv.values k).fits) c.in_ok-set.ensures
    (ap (λ (rs : List (ℕ × ℕ)). is_within rs w) c.deref.ensures.value ∙ c.in_ok-ranges.ensures w)
