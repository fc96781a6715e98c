use Rattle.leaf_csrs.specs.Usages.{field_test, source_test}
use Rattle.leaf_csrs.proofs.usage.first_cut.Goals as goal

pub returns : goal.returns
returns c = c.both.ensures (field_test c.args.usage) (source_test c.args.stand.now c.args.op c.args.register) c.in_ok-field.ensures c.in_ok-source.ensures
