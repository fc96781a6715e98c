use Rattle.std.proofs.Common.{◌≡◌, true, sym, ◌∙◌}
use Rattle.leaf_stand.specs.Posed.{is_posed_at}
use Rattle.leaf_stand.specs.Stands.{shape_at}
use Rattle.leaf_stand.specs.Internal.Ways.{shape_with, way_case}
use Rattle.leaf_stand.proofs.Rows.{listed_built}
use Rattle.leaf_pose.proofs.Steps.{allowed_case, nothing_added, one_added, posed_fits, unposed_fits, way_shaped}
use Rattle.leaf_pose.proofs.cases.push_way.Goals as goal

pub returns-then-not-is_posed : goal.returns-then-not-is_posed
returns-then-not-is_posed c =
    nothing_added c.args.stand.now c.args.leaf.now c.args.shaped.now (way_case c.args.stand.now c.args.leaf.now c.args.op c.args.way)
    (unposed_fits c.args.stand.now c.args.leaf.now c.args.op c.args.way (sym c.is_posed.ensures ∙ c.if-not-is_posed.true))

pub returns : goal.returns
returns c =
    let s = c.args.stand.now in
    let leaf = c.args.leaf.now in
    let posed : is_posed_at s leaf (shape_at (shape_with c.args.op c.args.way.end)) ≡ true = sym c.is_posed.ensures ∙ c.if-not-is_posed.false in
    one_added s leaf c.args.shaped.now c.push.new.self c.in_ok-case.case (shape_with c.args.op c.args.way.end) (way_case s leaf c.args.op c.args.way) c.in_ok-push.ensures.cases c.in_ok-push.ensures.shapes
    c.in_ok-case.ensures.shape (way_shaped s leaf c.args.op c.args.way c.in_ok-case.case (listed_built c.args.op c.requires.built) c.requires.way.part posed c.in_ok-case.ensures.fits)
    (allowed_case s leaf c.args.op c.in_ok-case.case c.in_ok-case.ensures.number c.requires.allowed)
    (posed_fits s leaf c.args.op c.args.way c.in_ok-case.case posed c.in_ok-case.ensures.fits)
