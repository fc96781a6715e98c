use Rattle.std.proofs.Common.{List, ℕ, refl, sym, subst}
use Rattle.fd_prob.specs.declared.slot.TheConstants.{SLOTS}
use Rattle.leaf_link.specs.Firsts.{IsDomain}
use Rattle.leaf_stand.specs.Internal.FirstCases.{fetch_first_at}
use Rattle.leaf_stand.specs.Sets.{AreEach}
use Rattle.leaf_stand.proofs.Lists.{no_row}
use Rattle.leaf_stand.proofs.stand.Stand.fetch_first_case.Goals as goal

pub returns-clause-first : goal.returns-clause-first
returns-clause-first c = record {
  number = refl;
  domains = subst (λ (l : List (List ℕ)). AreEach (λ r set. IsDomain set (fetch_first_at c.args.self.now c.args.first.now c.args.second.now r)) SLOTS l) (sym c.from_vec.ensures) c.in_ok-doms.ensures.each;
  rels = no_row _ c.new-rels.result c.new.result c.in_ok-push.ensures.ok c.new-rels.ensures c.new.ensures;
}
