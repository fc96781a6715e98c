use Rattle.tpl_admit.specs.Internal.Moments.{moment}
use Rattle.tpl_admit.specs.Variables.{value_of}
use Rattle.gen_turn.proofs.Names.{all_bound, begun, below, going_on}
use Rattle.gen_turn.proofs.binding.bind_names.Goals as goal

pub loop-wish-init : goal.loop-wish-init
loop-wish-init c = begun (λ v. value_of v (moment c.args.at.now)) c.args.dropped.now c.args.wishes.now c.args.part.now

pub bind_wish-requires : goal.bind_wish-requires
bind_wish-requires c = below (λ v. value_of v (moment c.args.at.now)) c.args.dropped.now c.args.wishes.now c.args.part.now c.loop-wish.wish-index c.loop-wish.bias c.wish-item.result c.loop-wish.part c.loop-wish.invariant c.loop-wish-test.true c.wish-item.is c.requires

pub loop-wish-preserved : goal.loop-wish-preserved
loop-wish-preserved c = going_on (λ v. value_of v (moment c.args.at.now)) c.args.dropped.now c.args.wishes.now c.args.part.now c.loop-wish.wish-index c.loop-wish.bias c.wish-item.result c.loop-wish.part c.loop-wish.invariant c.loop-wish-test.true c.wish-item.is c.bind_wish.new.part c.next_bias-bias.result c.in_ok-bind_wish.ensures.now c.in_ok-bind_wish.ensures.kept c.next_bias-bias.ensures

pub returns-clause-now : goal.returns-clause-now
returns-clause-now c = all_bound (λ v. value_of v (moment c.args.at.now)) c.args.dropped.now c.args.wishes.now c.loop-wish.wish-index c.loop-wish.bias c.args.part.now c.loop-wish.part c.loop-wish.invariant c.loop-wish-test.false

pub returns-clause-kept : goal.returns-clause-kept
returns-clause-kept c = c.loop-wish.invariant.kept
