use Rattle.std.proofs.lemmas.Result.{IfOk-weaker}
use Rattle.leaf_csrs.proofs.Counted.{ranges_are}
use Rattle.leaf_csrs.proofs.numbers.set_of.Goals as goal

pub returns : goal.returns
returns c = IfOk-weaker c.from_ranges.result _ _ (λ set h. ranges_are c.args.pairs.now set h) c.from_ranges.ensures
