use Rattle.std.proofs.Common.{List, ℕ, ◌++◌, sym, subst, ap, ◌∙◌}
use Rattle.fd_prob.specs.declared.slot.TheConstants.{SLOTS}
use Rattle.leaf_stand.specs.declared.shape.Shape.{Shape}
use Rattle.leaf_stand.specs.Sets.{AreDomains}
use Rattle.leaf_pose.specs.Goals.{goal_rels, near_domain, place_rels}
use Rattle.leaf_pose.proofs.Accessing.{goal_case_same}
use Rattle.leaf_pose.proofs.goals.case_of.Goals as goal

pub returns-clause-fits : goal.returns-clause-fits
returns-clause-fits c a place ea =
    goal_case_same c.args.stand.now a c.args.leaf.now c.args.op c.args.way.now c.args.goal _ c.args.place.now c.requires.kind c.requires.judged c.requires.between c.number.ensures.number
    (subst (λ (l : List (List ℕ)). AreDomains (near_domain c.args.stand.now c.args.leaf.now c.args.op c.args.way.now c.args.goal) SLOTS l) (sym c.from_vec.ensures) (c.in_ok-doms.ensures.each ea))
    (c.in_ok-rels.ensures ∙ ap (λ (sh : Shape). goal_rels c.args.stand.now c.args.leaf.now sh ++ place_rels c.args.place.now) c.shape_of.ensures)
    place
