use Rattle.std.proofs.Common.{◌≡◌, true, sym, ◌∙◌, ap, ◌∷◌, []}
use Rattle.std.proofs.lemmas.Bool.{and_parts}
use Rattle.data_goals.specs.Goals.{goal_way}
use Rattle.leaf_stand.specs.declared.shape.Shape.{Shape}
use Rattle.leaf_stand.specs.Posed.{is_posed_at, stand_cases}
use Rattle.leaf_stand.specs.Stands.{shape_at, turn_of}
use Rattle.leaf_pose.specs.Goals.{goal_shape}
use Rattle.leaf_pose.proofs.Accessing.{goal_empty, goal_nowhere, goal_posed, goal_shaped, goal_unposed}
use Rattle.leaf_pose.proofs.Steps.{allowed_case, nothing_added, one_added}
use Rattle.leaf_pose.proofs.goals.push_goal.Goals as goal

pub case_of-requires-clause-judged : goal.case_of-requires-clause-judged
case_of-requires-clause-judged c =
    let posed : is_posed_at c.args.stand.now c.args.leaf.now (shape_at (goal_shape c.args.op c.args.way.now.end c.args.goal)) ≡ true =
    ap (λ (sh : Shape). is_posed_at c.args.stand.now c.args.leaf.now (shape_at sh)) (sym c.shape_of-shape.ensures) ∙ sym c.is_posed.ensures ∙ c.if-not-is_posed.false in
    (and_parts _ _ (and_parts _ _ posed).1).0

pub returns-then-not-is_posed : goal.returns-then-not-is_posed
returns-then-not-is_posed c a aimed item =
    nothing_added c.args.stand.now c.args.leaf.now c.args.shaped.now (stand_cases c.args.stand.now c.args.leaf.now c.args.op (goal_way (turn_of c.args.stand.now) a c.args.leaf.now c.args.op c.args.way.now c.args.goal ∷ []))
    (goal_unposed c.args.stand.now a c.args.leaf.now c.args.op c.args.way.now c.args.goal (ap (λ (sh : Shape). is_posed_at c.args.stand.now c.args.leaf.now (shape_at sh)) (sym c.shape_of-shape.ensures) ∙ sym c.is_posed.ensures ∙ c.if-not-is_posed.true))

pub returns-then-is_nowhere : goal.returns-then-is_nowhere
returns-then-is_nowhere c a aimed item =
    nothing_added c.args.stand.now c.args.leaf.now c.args.shaped.now (stand_cases c.args.stand.now c.args.leaf.now c.args.op (goal_way (turn_of c.args.stand.now) a c.args.leaf.now c.args.op c.args.way.now c.args.goal ∷ []))
    (goal_nowhere c.args.stand.now a c.args.leaf.now c.args.op c.args.way.now c.args.goal c.in_ok-leads.leads (c.in_ok-leads.ensures a c.args.op _ aimed.targets_are) (c.is_nowhere.ensures c.if-is_nowhere.true))

pub returns-then-is_empty : goal.returns-then-is_empty
returns-then-is_empty c a aimed item =
    nothing_added c.args.stand.now c.args.leaf.now c.args.shaped.now (stand_cases c.args.stand.now c.args.leaf.now c.args.op (goal_way (turn_of c.args.stand.now) a c.args.leaf.now c.args.op c.args.way.now c.args.goal ∷ []))
    (goal_empty c.args.stand.now a c.args.leaf.now c.args.op c.args.way.now c.args.goal c.in_ok-ea.ea c.in_ok-ea.ensures (c.is_empty.ensures.0 c.if-is_empty.true))

pub returns : goal.returns
returns c a aimed item =
    let s = c.args.stand.now in
    let leaf = c.args.leaf.now in
    let op = c.args.op in
    let way = c.args.way.now in
    let posed : is_posed_at s leaf (shape_at (goal_shape op way.end c.args.goal)) ≡ true = ap (λ (sh : Shape). is_posed_at s leaf (shape_at sh)) (sym c.shape_of-shape.ensures) ∙ sym c.is_posed.ensures ∙ c.if-not-is_posed.false in
    let fits = c.in_ok-case.ensures.fits a (record { apart = c.in_ok-apart.ensures; leads = c.in_ok-leads.ensures a c.args.op _ aimed.targets_are }) c.in_ok-ea.ensures in
    one_added s leaf c.args.shaped.now c.push.new.self c.in_ok-case.case c.shape_of-shape.result (stand_cases s leaf op (goal_way (turn_of s) a leaf op way c.args.goal ∷ [])) c.in_ok-push.ensures.cases c.in_ok-push.ensures.shapes c.in_ok-case.ensures.shape
    (goal_shaped s a leaf op way c.args.goal c.shape_of-shape.result c.in_ok-case.case c.requires.kind aimed.accesses item c.shape_of-shape.ensures posed fits)
    (allowed_case s leaf op c.in_ok-case.case c.in_ok-case.ensures.number c.requires.allowed)
    (goal_posed s a leaf op way c.args.goal c.in_ok-case.case posed fits)
