use Rattle.std.proofs.Common.{arith, ap, ◌∙◌, length, ◌+◌, ◌++◌, ◌∷◌, [], sym, subst, List, ℕ, drop}
use Rattle.std.proofs.lemmas.List.{length-append}
use Rattle.fd_prob.specs.declared.slot.TheConstants.{SLOTS}
use Rattle.data_bytes.specs.Sets.{IsSetOf}
use Rattle.leaf_stand.specs.Sets.{AreDomains}
use Rattle.leaf_stand.proofs.Lists.{add_domain, all_domains}
use Rattle.leaf_pose.specs.Goals.{near_domain}
use Rattle.leaf_pose.proofs.goals.goal_domains.Goals as goal

pub loop-slot-preserved : goal.loop-slot-preserved
loop-slot-preserved c =
    let test = near_domain c.args.stand.now c.args.leaf.now c.args.op c.args.way.now c.args.goal in
    record {
      each = λ ea.
          subst (λ (l : List (List ℕ)). (rest : List (List ℕ)) → AreDomains test (drop (c.loop-slot.slot-index + 1) SLOTS) rest → AreDomains test SLOTS (l ++ rest)) (sym c.in_ok-push.ensures.items)
          (add_domain (λ r set. IsSetOf (test r) set) c.loop-slot.slot-index _ c.loop-slot.doms.items c.in_ok-set.set c.loop-slot-test.true (c.in_ok-set.ensures ea) (c.loop-slot.invariant.each ea));
      length = ap (λ (l : List (List ℕ)). length l) c.in_ok-push.ensures.items ∙ (length-append c.loop-slot.doms.items (c.in_ok-set.set ∷ []) ∙ ap (λ (n : ℕ). n + 1) c.loop-slot.invariant.length);
    }

pub returns-clause-each : goal.returns-clause-each
returns-clause-each c ea = all_domains (λ r set. IsSetOf (near_domain c.args.stand.now c.args.leaf.now c.args.op c.args.way.now c.args.goal r) set) c.loop-slot.slot-index c.loop-slot.doms.items c.loop-slot-test.false (c.loop-slot.invariant.each ea)

pub returns-clause-length : goal.returns-clause-length
returns-clause-length c = omega (arith, c.loop-slot.invariant.length, c.loop-slot-test.false, c.loop-slot.auto.slot-index-end)
