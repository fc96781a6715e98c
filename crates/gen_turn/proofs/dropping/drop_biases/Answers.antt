use Rattle.gen_turn.specs.Turns.{listed_as}
use Rattle.gen_turn.proofs.Drops.{all_listed, begun, one_listed}
use Rattle.gen_turn.proofs.dropping.drop_biases.Goals as goal

pub loop-bias-init : goal.loop-bias-init
loop-bias-init c = begun (listed_as c.args.hart c.args.step c.args.wishes.now) c.args.dropped.now c.args.part.now

pub loop-bias-preserved : goal.loop-bias-preserved
loop-bias-preserved c = one_listed (listed_as c.args.hart c.args.step c.args.wishes.now) c.args.dropped.now c.args.part.now c.loop-bias.bias-index c.loop-bias.part c.loop-bias.invariant _ c.drop_bias.new.part c.loop-bias-test.true c.in_ok-drop_bias.ensures.now c.in_ok-drop_bias.ensures.kept

pub returns-clause-now : goal.returns-clause-now
returns-clause-now c = all_listed (listed_as c.args.hart c.args.step c.args.wishes.now) c.args.dropped.now c.args.part.now c.loop-bias.bias-index c.loop-bias.part c.loop-bias.invariant c.loop-bias-test.false

pub returns-clause-kept : goal.returns-clause-kept
returns-clause-kept c = c.loop-bias.invariant.kept
