use Rattle.std.proofs.Common.{◌≡◌, true, sym, ◌∙◌, ap}
use Rattle.std.proofs.lemmas.Bool.{and_parts}
use Rattle.leaf_stand.specs.declared.shape.End.{End}
use Rattle.leaf_stand.specs.Posed.{is_posed_at}
use Rattle.leaf_stand.specs.Stands.{shape_at}
use Rattle.leaf_stand.specs.Internal.Ways.{shape_with}
use Rattle.leaf_pose.specs.Internal.Csrs.{access_case, end_of}
use Rattle.leaf_pose.proofs.Granting.{access_posed, access_shaped_at, access_unposed}
use Rattle.leaf_pose.proofs.Steps.{allowed_case, nothing_added, one_added}
use Rattle.leaf_pose.proofs.csrs.push_access.Goals as goal

pub case_of-requires-clause-judged : goal.case_of-requires-clause-judged
case_of-requires-clause-judged c =
    let s = c.args.stand.now in
    let leaf = c.args.leaf.now in
    let posed : is_posed_at s leaf (shape_at (shape_with c.args.op (end_of c.args.access))) ≡ true = ap (λ (e : End). is_posed_at s leaf (shape_at (shape_with c.args.op e))) (sym c.end.ensures) ∙ sym c.is_posed.ensures ∙ c.if-not-is_posed.false in
    (and_parts _ _ (and_parts _ _ posed).1).0

pub returns-then-not-is_posed : goal.returns-then-not-is_posed
returns-then-not-is_posed c =
    let s = c.args.stand.now in
    let leaf = c.args.leaf.now in
    nothing_added s leaf c.args.shaped.now (access_case s leaf c.args.op c.args.access)
    (access_unposed s leaf c.args.op c.args.access (ap (λ (e : End). is_posed_at s leaf (shape_at (shape_with c.args.op e))) (sym c.end.ensures) ∙ sym c.is_posed.ensures ∙ c.if-not-is_posed.true))

pub returns : goal.returns
returns c =
    let s = c.args.stand.now in
    let leaf = c.args.leaf.now in
    let posed : is_posed_at s leaf (shape_at (shape_with c.args.op (end_of c.args.access))) ≡ true = ap (λ (e : End). is_posed_at s leaf (shape_at (shape_with c.args.op e))) (sym c.end.ensures) ∙ sym c.is_posed.ensures ∙ c.if-not-is_posed.false in
    one_added s leaf c.args.shaped.now c.push.new.self c.in_ok-case.case (shape_with c.args.op c.end.result) (access_case s leaf c.args.op c.args.access) c.in_ok-push.ensures.cases c.in_ok-push.ensures.shapes
    c.in_ok-case.ensures.shape
    (access_shaped_at c.domains_are_of_operations.ensures c.granted_are_usages.ensures.there c.denied_are_refused.ensures.there s leaf c.args.op c.args.access c.end.result c.in_ok-case.case c.end.ensures c.requires.csr c.requires.listed posed c.in_ok-case.ensures.fits)
    (allowed_case s leaf c.args.op c.in_ok-case.case c.in_ok-case.ensures.number c.requires.allowed)
    (access_posed s leaf c.args.op c.args.access c.in_ok-case.case posed c.in_ok-case.ensures.fits)
