use Rattle.std.proofs.Common.{List, ℕ, sym, subst}
use Rattle.fd_prob.specs.declared.slot.TheConstants.{SLOTS}
use Rattle.leaf_link.specs.Cases.{domain}
use Rattle.leaf_stand.specs.Sets.{AreDomains}
use Rattle.leaf_stand.specs.Stands.{turn_of}
use Rattle.leaf_pose.specs.Internal.Csrs.{access_way}
use Rattle.leaf_pose.proofs.Accesses.{access_case_same}
use Rattle.leaf_pose.proofs.csrs.case_of.Goals as goal

pub returns-clause-fits : goal.returns-clause-fits
returns-clause-fits c =
    access_case_same c.domains_are_of_operations.ensures c.granted_are_usages.ensures.there c.args.stand.now c.args.leaf.now c.args.op c.args.access _ c.requires.csr c.requires.listed c.requires.judged c.requires.between c.number.ensures.number
    (subst (λ (l : List (List ℕ)). AreDomains (domain (turn_of c.args.stand.now) 0 c.args.leaf.now c.args.op (access_way c.args.stand.now c.args.op c.args.access)) SLOTS l) (sym c.from_vec.ensures) c.in_ok-doms.ensures.each) c.in_ok-rels.ensures
