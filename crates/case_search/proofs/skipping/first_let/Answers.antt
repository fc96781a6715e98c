use Rattle.std.proofs.Common.{◌≡◌, ◌≤◌, ◌∙◌, inl, inr, arith}
use Rattle.std.proofs.lemmas.Bool.{cases_lt}
use Rattle.fd_prob.specs.Order.{rank}
use Rattle.case_search.proofs.Ranks.{member_word}
use Rattle.case_search.proofs.skipping.first_let.Goals as goal

pub loop-value-preserved : goal.loop-value-preserved
loop-value-preserved c =
    let p = c.args.pivot in
    let here_is : c.from-here.result ≡ rank p c.in-Some.value = c.from-here.ensures ∙ c.rank.ensures.rank in
    record {
      from = omega (arith, c.in-Some.ensures.1, c.loop-value.invariant.from, here_is, c.let_by_all-there.ensures.from);
      below = c.let_by_all-there.ensures.bound;
      passed = λ w inside from less. elim (cases_lt (rank p w) c.loop-value.next) [
        | inl before ↦ c.loop-value.invariant.passed w inside from before
        | inr behind ↦
            let near : rank p c.in-Some.value ≤ rank p w = c.in-Some.ensures.2 w inside behind in
            c.let_by_all-there.ensures.passed w (member_word c.args.domain.now c.element_laws.ensures.words w inside) (omega (arith, near, here_is)) less
      ];
    }
