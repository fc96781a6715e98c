use Rattle.std.proofs.Common.{◌||◌, ◌∙◌}
use Rattle.dom_set.specs.Elements.{is_in}
use Rattle.data_bytes.proofs.Sets.{elements_are}
use Rattle.data_bytes.proofs.memory.barred_bytes.Goals as goal

pub returns-clause-stores : goal.returns-clause-stores
returns-clause-stores c v small =
    elements_are (λ x. is_in c.in_ok-barred.field-0 x || is_in c.in_ok-fetched.fetched x) c.in_ok-stores.stores c.in_ok-stores.ensures v small
    ∙ (λ i. c.in_ok-barred.ensures v small i || c.in_ok-fetched.ensures v small i)
