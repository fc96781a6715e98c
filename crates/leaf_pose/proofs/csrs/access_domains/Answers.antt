use Rattle.std.proofs.Common.{arith, ap, ◌∙◌, length, ◌+◌, ◌++◌, ◌∷◌, [], sym, subst, List, ℕ, drop}
use Rattle.std.proofs.lemmas.List.{length-append}
use Rattle.fd_prob.specs.declared.slot.TheConstants.{SLOTS}
use Rattle.leaf_link.specs.Cases.{domain}
use Rattle.data_bytes.specs.Sets.{IsSetOf}
use Rattle.leaf_stand.specs.Sets.{AreDomains}
use Rattle.leaf_stand.specs.Stands.{turn_of}
use Rattle.leaf_stand.proofs.Lists.{add_domain, all_domains}
use Rattle.leaf_pose.specs.Internal.Csrs.{access_way}
use Rattle.leaf_pose.proofs.csrs.access_domains.Goals as goal

pub loop-slot-preserved : goal.loop-slot-preserved
loop-slot-preserved c =
    let s = c.args.stand.now in
    let leaf = c.args.leaf.now in
    let op = c.args.op in
    let access = c.args.access in
    record {
      each =
          subst (λ (l : List (List ℕ)). (rest : List (List ℕ)) → AreDomains (domain (turn_of s) 0 leaf op (access_way s op access)) (drop (c.loop-slot.slot-index + 1) SLOTS) rest → AreDomains (domain (turn_of s) 0 leaf op (access_way s op access)) SLOTS (l ++ rest)) (sym c.in_ok-push.ensures.items)
          (add_domain (λ r set. IsSetOf (domain (turn_of s) 0 leaf op (access_way s op access) r) set) c.loop-slot.slot-index _ c.loop-slot.doms.items c.in_ok-access_domain.field-0 c.loop-slot-test.true c.in_ok-access_domain.ensures c.loop-slot.invariant.each);
      length = ap (λ (l : List (List ℕ)). length l) c.in_ok-push.ensures.items ∙ (length-append c.loop-slot.doms.items (c.in_ok-access_domain.field-0 ∷ []) ∙ ap (λ (n : ℕ). n + 1) c.loop-slot.invariant.length);
    }

pub returns-clause-each : goal.returns-clause-each
returns-clause-each c = all_domains (λ r set. IsSetOf (domain (turn_of c.args.stand.now) 0 c.args.leaf.now c.args.op (access_way c.args.stand.now c.args.op c.args.access) r) set) c.loop-slot.slot-index c.loop-slot.doms.items c.loop-slot-test.false c.loop-slot.invariant.each

pub returns-clause-length : goal.returns-clause-length
returns-clause-length c = omega (arith, c.loop-slot.invariant.length, c.loop-slot-test.false, c.loop-slot.auto.slot-index-end)
