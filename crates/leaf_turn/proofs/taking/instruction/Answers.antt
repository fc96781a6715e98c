use Rattle.leaf_link.specs.Answers.{values_in}
use Rattle.leaf_turn.proofs.Operations.{built}
use Rattle.leaf_turn.proofs.taking.instruction.Goals as goal

pub returns : goal.returns
returns c =
    built (values_in c.args.x.now) c.value.result c.value-2.result c.value-3.result c.value-4.result c.value-5.result c.value-6.result c.requires.number
    c.value.ensures c.value-2.ensures c.value-3.ensures c.value-4.ensures c.value-5.ensures c.value-6.ensures
