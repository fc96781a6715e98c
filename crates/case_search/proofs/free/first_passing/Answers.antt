use Rattle.std.proofs.Common.{◌≡◌, ◌≤◌, ℕ, false, sym, ap, ◌∙◌, subst, inl, inr, arith}
use Rattle.std.proofs.lemmas.Bool.{cases_lt}
use Rattle.fd_prob.specs.declared.problem.Assignment.{Assignment}
use Rattle.fd_prob.specs.Order.{rank}
use Rattle.case_search.specs.Internal.Free.{own_hold, put}
use Rattle.case_search.proofs.Ranks.{member_word, rank_injective}
use Rattle.case_search.proofs.free.first_passing.Goals as goal

pub loop-value-preserved : goal.loop-value-preserved
loop-value-preserved c =
    let v = c.in-Some.value in
    let p = c.args.pivot in
    let next_is : c.from-k.result ≡ rank p v = c.from-k.ensures ∙ c.rank.ensures.rank in
    record {
      below = omega (arith, c.rank.type_inv, c.from-k.ensures);
      failed = λ w inside less. elim (cases_lt (rank p w) c.loop-value.k) [
        | inl before ↦ c.loop-value.invariant.failed w inside before
        | inr from ↦
            let near : rank p v ≤ rank p w = c.in-Some.ensures.2 w inside from in
            let same : w ≡ v = rank_injective p w v c.rank.ensures.pivot (member_word c.args.domain.now c.element_laws.ensures.words w inside) c.rank.ensures.value (omega (arith, near, less, next_is)) in
            let failed : own_hold c.args.op (put c.args.base.now c.args.slot v) c.args.slot c.args.rels.now ≡ false = ap (λ (x : Assignment). own_hold c.args.op x c.args.slot c.args.rels.now) (sym c.put.ensures) ∙ sym c.if-own_hold.ensures in
            subst (λ (u : ℕ). own_hold c.args.op (put c.args.base.now c.args.slot u) c.args.slot c.args.rels.now ≡ false) (sym same) failed
      ];
    }
