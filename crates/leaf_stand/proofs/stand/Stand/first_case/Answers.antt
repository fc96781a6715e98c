use Rattle.std.proofs.Common.{List, ℕ, sym, subst}
use Rattle.leaf_stand.specs.Internal.FirstCases.{AreFirstDomains}
use Rattle.leaf_stand.proofs.Lists.{no_row}
use Rattle.leaf_stand.proofs.stand.Stand.first_case.Goals as goal

pub returns-clause-first : goal.returns-clause-first
returns-clause-first c = record {
  number = c.number.ensures.number;
  domains = subst (λ (l : List (List ℕ)). AreFirstDomains c.args.self.now c.args.leaf.now c.args.op l) (sym c.from_vec.ensures) c.in_ok-doms.ensures.each;
  rels = no_row _ c.new-rels.result c.new.result c.in_ok-push.ensures.ok c.new-rels.ensures c.new.ensures;
}
