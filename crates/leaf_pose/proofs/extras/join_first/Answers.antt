use Rattle.std.proofs.Common.{◌<◌, Bool, true, false, [], ◌∷◌, get_or, length, set, subst, arith}
use Rattle.fd_prob.specs.declared.relation.Quad.{Quad}
use Rattle.leaf_pose.specs.Extras.{AreJoined}
use Rattle.leaf_pose.proofs.Joining.{joined_at, joined_then}
use Rattle.leaf_pose.proofs.extras.join_first.Goals as goal

pub returns-then-branch : goal.returns-then-branch
returns-then-branch c =
    let there : Quad = get_or c.loop-there.rows c.loop-there.there-index c.there-item.result in
    let within : c.loop-there.there-index < length c.loop-there.rows = omega arith in
    joined_then true c.args.row.now c.args.rows.now c.loop-there.rows (set c.loop-there.rows c.loop-there.there-index c.join.new.row) c.loop-there.invariant
    (joined_at true c.args.row.now c.join.new.row c.loop-there.rows c.loop-there.there-index c.there-item.result within
    (subst (λ (b : Bool). AreJoined b c.args.row.now (there ∷ []) (c.join.new.row ∷ [])) c.if-branch.true c.in_ok-join.ensures))

pub loop-there-preserved : goal.loop-there-preserved
loop-there-preserved c =
    let there : Quad = get_or c.loop-there.rows c.loop-there.there-index c.there-item.result in
    let within : c.loop-there.there-index < length c.loop-there.rows = omega arith in
    joined_then false c.args.row.now c.args.rows.now c.loop-there.rows (set c.loop-there.rows c.loop-there.there-index c.join.new.row) c.loop-there.invariant
    (joined_at false c.args.row.now c.join.new.row c.loop-there.rows c.loop-there.there-index c.there-item.result within
    (subst (λ (b : Bool). AreJoined b c.args.row.now (there ∷ []) (c.join.new.row ∷ [])) c.if-branch.false c.in_ok-join.ensures))
