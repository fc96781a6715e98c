use Rattle.std.proofs.Common.{true, refl}
use Rattle.dom_set.specs.Elements.{is_in}
use Rattle.data_bytes.proofs.Sets.{elements_are, minus_test}
use Rattle.data_bytes.proofs.memory.outside_of.Goals as goal

pub returns : goal.returns
returns c =
    minus_test c.in_ok-all.all c.args.bytes.now c.in_ok-minus.field-0 (λ x. true) (is_in c.args.bytes.now)
    (elements_are (λ x. true) c.in_ok-all.all c.in_ok-all.ensures) (λ v small. refl) c.in_ok-minus.ensures
