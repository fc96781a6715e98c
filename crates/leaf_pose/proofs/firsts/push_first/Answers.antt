use Rattle.std.proofs.Common.{sym, ◌∙◌}
use Rattle.leaf_stand.specs.declared.shape.End.TheVariants.{Retires}
use Rattle.leaf_stand.specs.Internal.Ways.{shape_with}
use Rattle.leaf_pose.proofs.Leading.{no_first, one_first}
use Rattle.leaf_pose.proofs.firsts.push_first.Goals as goal

pub returns-then-not-allows : goal.returns-then-not-allows
returns-then-not-allows c = no_first c.args.stand.now c.args.leaf.now c.args.op c.args.shaped.now (sym c.allows.ensures ∙ c.if-not-allows.true)

pub returns : goal.returns
returns c =
    one_first c.args.stand.now c.args.leaf.now c.args.op c.args.shaped.now c.push.new.self c.in_ok-case.case (shape_with c.args.op Retires) (sym c.allows.ensures ∙ c.if-not-allows.false)
    c.in_ok-push.ensures.cases c.in_ok-push.ensures.shapes c.in_ok-case.ensures.shape c.in_ok-case.ensures.first
