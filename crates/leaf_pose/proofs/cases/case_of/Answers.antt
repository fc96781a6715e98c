use Rattle.std.proofs.Common.{List, ℕ, sym, subst}
use Rattle.fd_prob.specs.declared.slot.TheConstants.{SLOTS}
use Rattle.leaf_stand.specs.Sets.{AreDomains}
use Rattle.leaf_stand.specs.Stands.{domain_at, turn_of}
use Rattle.leaf_stand.specs.Internal.Ways.{shape_with}
use Rattle.leaf_stand.proofs.Single.{case_same}
use Rattle.leaf_pose.proofs.cases.case_of.Goals as goal

pub returns-clause-fits : goal.returns-clause-fits
returns-clause-fits c =
    case_same c.args.stand.now c.args.leaf.now c.args.op c.args.way _ c.requires.built c.requires.steered c.requires.aimed c.requires.judged c.requires.between c.number.ensures.number
    (subst (λ (l : List (List ℕ)). AreDomains (domain_at (turn_of c.args.stand.now) c.args.leaf.now (shape_with c.args.op c.args.way.end) c.args.way.reads) SLOTS l) (sym c.from_vec.ensures) c.in_ok-doms.ensures.each) c.in_ok-rels.ensures
