use Rattle.std.proofs.Common.{List, ℕ, refl, sym, subst}
use Rattle.fd_prob.specs.declared.slot.TheConstants.{SLOTS}
use Rattle.leaf_pose.specs.Fetches.{entries_at}
use Rattle.leaf_stand.specs.Sets.{AreDomains}
use Rattle.leaf_stand.specs.Stands.{turn_of}
use Rattle.leaf_pose.proofs.Fetching.{entries_fit}
use Rattle.leaf_pose.proofs.fetches.entries_case.Goals as goal

pub returns-clause-fits : goal.returns-clause-fits
returns-clause-fits c =
    entries_fit c.args.stand.now c.args.way.now c.args.end _ refl (subst (λ (l : List (List ℕ)). AreDomains (entries_at (turn_of c.args.stand.now) c.args.way.now c.args.end) SLOTS l) (sym c.from_vec.ensures) c.in_ok-doms.ensures.each) c.new.ensures
