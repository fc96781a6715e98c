use Rattle.std.proofs.Common.{◌<◌, ◌≤◌, ℕ, Some, None, sym, subst, arith}
use Rattle.fd_prob.specs.Order.{rank}
use Rattle.case_search.specs.Search.{IsNext}
use Rattle.case_search.proofs.Ranks.{next_found, next_missing, next_none}
use Rattle.case_search.proofs.order.next_from.Goals as goal

pub returns-in_default : goal.returns-in_default
returns-in_default c = next_none c.args.set.now c.args.pivot c.args.k c.element_laws.ensures.words (omega arith) (omega (arith, c.in_default.ensures))

pub returns-then-k-rank : goal.returns-then-k-rank
returns-then-k-rank c =
    let from : c.in-Ok.k ≤ rank c.args.pivot c.in_ok-value.value = omega (arith, c.if-k-rank.true, c.rank.ensures.rank) in
    subst (λ (n : ℕ). IsNext c.args.set.now c.args.pivot n (Some c.in_ok-value.value)) c.in-Ok.ensures.1 (next_found c.args.set.now c.args.pivot c.in-Ok.k c.element_laws.ensures.ascending c.element_laws.ensures.words (omega arith) (omega (arith, c.in-Ok.ensures.0, c.in-Ok.ensures.1)) c.in_ok-value.value (sym c.in_ok-value.ensures.first) from)

pub returns-else-k-rank : goal.returns-else-k-rank
returns-else-k-rank c =
    let below : rank c.args.pivot c.in_ok-value.value < c.in-Ok.k = omega (arith, c.if-k-rank.false, c.rank.ensures.rank) in
    subst (λ (n : ℕ). IsNext c.args.set.now c.args.pivot n None) c.in-Ok.ensures.1 (next_missing c.args.set.now c.args.pivot c.in-Ok.k c.element_laws.ensures.ascending c.element_laws.ensures.words (omega arith) (omega (arith, c.in-Ok.ensures.0, c.in-Ok.ensures.1)) c.in_ok-value.value (sym c.in_ok-value.ensures.first) below)
