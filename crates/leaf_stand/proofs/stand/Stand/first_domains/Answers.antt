use Rattle.std.proofs.Common.{arith, ap, ◌∙◌, length, ◌+◌, ◌++◌, ◌∷◌, [], sym, subst, List, ℕ, drop}
use Rattle.std.proofs.lemmas.List.{length-append}
use Rattle.fd_prob.specs.declared.slot.TheConstants.{SLOTS}
use Rattle.leaf_link.specs.Firsts.{IsDomain}
use Rattle.leaf_stand.specs.Internal.FirstCases.{first_at}
use Rattle.leaf_stand.specs.Sets.{AreEach}
use Rattle.leaf_stand.proofs.Lists.{add_domain, all_domains}
use Rattle.leaf_stand.proofs.stand.Stand.first_domains.Goals as goal

pub loop-slot-preserved : goal.loop-slot-preserved
loop-slot-preserved c = record {
  each =
      subst (λ (l : List (List ℕ)). (rest : List (List ℕ)) → AreEach (λ r set. IsDomain set (first_at c.args.self.now c.args.leaf.now c.args.op r)) (drop (c.loop-slot.slot-index + 1) SLOTS) rest → AreEach (λ r set. IsDomain set (first_at c.args.self.now c.args.leaf.now c.args.op r)) SLOTS (l ++ rest)) (sym c.in_ok-push.ensures.items)
      (add_domain (λ r set. IsDomain set (first_at c.args.self.now c.args.leaf.now c.args.op r)) c.loop-slot.slot-index _ c.loop-slot.doms.items c.in_ok-first_domain.field-0 c.loop-slot-test.true c.in_ok-first_domain.ensures c.loop-slot.invariant.each);
  length = ap (λ (l : List (List ℕ)). length l) c.in_ok-push.ensures.items ∙ (length-append c.loop-slot.doms.items (c.in_ok-first_domain.field-0 ∷ []) ∙ ap (λ (n : ℕ). n + 1) c.loop-slot.invariant.length);
}

pub returns-clause-each : goal.returns-clause-each
returns-clause-each c = all_domains (λ r set. IsDomain set (first_at c.args.self.now c.args.leaf.now c.args.op r)) c.loop-slot.slot-index c.loop-slot.doms.items c.loop-slot-test.false c.loop-slot.invariant.each

pub returns-clause-length : goal.returns-clause-length
returns-clause-length c = omega (arith, c.loop-slot.invariant.length, c.loop-slot-test.false, c.loop-slot.auto.slot-index-end)
