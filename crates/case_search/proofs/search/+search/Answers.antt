use Rattle.std.proofs.Common.{◌≡◌, ℕ, true, List, ◌+◌, length, slice_index, ap, sym, ◌∙◌, subst, arith}
use Rattle.fd_narrow.specs.Narrowing.{domain_in}
use Rattle.fd_prob.specs.Order.{rank}
use Rattle.case_search.proofs.Freedom.{free_least_at, free_none_at}
use Rattle.case_search.proofs.Searching.{fixed_at, found_at, one_tried_at, single_at, skipped, Tried}
use Rattle.dom_set.specs.Elements.{is_in}
use Rattle.case_search.proofs.Leaving.{left_at_once, left_none}
use Rattle.case_search.proofs.search.+search.Goals as goal

pub search-requires : goal.search-requires
search-requires t c =
    let one : length (domain_in c.args.doms.now c.slot_at-slot.result) ≡ 1 = ap length (sym c.domain-domain.ensures) ∙ c.is_single.ensures.0 c.if-is_single.true in
    (omega arith, (c.requires.case, (omega arith, single_at c.args.doms.now c.slot_at-slot.result c.args.place c.slot_at-slot.ensures c.requires.fixed one)))

pub returns-in_default-first_passing : goal.returns-in_default-first_passing
returns-in_default-first_passing t c =
    free_none_at c.args.case.now c.args.doms.now c.slot_at-slot.result c.args.place c.slot_at-slot.ensures c.args.pivots.now c.operation.result c.operation.ensures c.as_slice-rels.result.now c.as_slice-rels.ensures c.domain-domain.result.now c.domain-domain.ensures c.in-Some.base c.in-Some.ensures.0 c.in-Some.ensures.1 (c.is_free.ensures c.if-is_free.true) c.in_default-first_passing.ensures

pub search-requires-then-is_free : goal.search-requires-then-is_free
search-requires-then-is_free t c =
    (omega arith, (c.requires.case, (omega arith, fixed_at c.args.case.now c.args.doms.now c.in_ok-copy.field-0 c.in_ok-copy.ensures c.slot_at-slot.result c.in-Some-first_passing.value c.in_ok-cut.cut c.in_ok-cut.ensures c.args.place c.slot_at-slot.ensures c.requires.fixed)))

pub returns-then-is_free : goal.returns-then-is_free
returns-then-is_free t c =
    free_least_at c.args.case.now c.args.doms.now c.slot_at-slot.result c.args.place c.slot_at-slot.ensures c.args.pivots.now c.operation.result c.operation.ensures c.as_slice-rels.result.now c.as_slice-rels.ensures c.domain-domain.result.now c.domain-domain.ensures c.in-Some.base c.in-Some.ensures.0 c.in-Some.ensures.1 (c.is_free.ensures c.if-is_free.true) c.in-Some-first_passing.value c.in-Some-first_passing.ensures c.in_ok-copy.field-0 c.in_ok-cut.cut c.in_ok-copy.ensures c.in_ok-cut.ensures c.requires.fixed c.in_ok-least.least c.in_ok-least.ensures

pub search-requires-in-Some-next_from : goal.search-requires-in-Some-next_from
search-requires-in-Some-next_from t c =
    (omega arith, (c.requires.case, (omega arith, fixed_at c.args.case.now c.args.doms.now c.in_ok-copy-2.field-0 c.in_ok-copy-2.ensures c.slot_at-slot.result c.in-Some-next_from.value c.in_ok-cut-2.cut c.in_ok-cut-2.ensures c.args.place c.slot_at-slot.ensures c.requires.fixed)))

pub returns-in-Some-2 : goal.returns-in-Some-2
returns-in-Some-2 t c =
    found_at c.args.case.now c.args.doms.now c.in_ok-copy-2.field-0 c.in_ok-copy-2.ensures c.slot_at-slot.result c.in-Some-next_from.value c.in_ok-cut-2.cut c.in_ok-cut-2.ensures c.args.place c.slot_at-slot.ensures c.args.pivots.now c.loop-value.k c.domain-domain.result.now c.domain-domain.ensures c.loop-value.invariant.tried c.in-Some-next_from.ensures c.requires.fixed c.in-Some-2.x (rw c.in-Some-2.is at c.in_ok-x.ensures)

pub loop-value-init : goal.loop-value-init
loop-value-init t c =
    let p : ℕ = slice_index c.args.pivots.now c.args.place in
    record {
      below = c.first_let-first.ensures.bound;
      tried = skipped c.args.case.now c.args.doms.now c.slot_at-slot.result p 0 c.first_let-first.result c.domain-domain.result.now c.as_slice-rels.result.now c.domain-domain.ensures c.as_slice-rels.ensures c.first_let-first.ensures.passed (λ y met less. omega (arith, less));
    }

pub loop-value-smaller : goal.loop-value-smaller
loop-value-smaller t c = omega (arith, c.first_let-k.ensures.from, c.first_let-k.ensures.bound, c.in-Some-next_from.ensures.1, c.from.ensures, c.rank.ensures.rank, c.rank.type_inv)

pub loop-value-preserved : goal.loop-value-preserved
loop-value-preserved t c =
    let p : ℕ = slice_index c.args.pivots.now c.args.place in
    let next_is : c.from.result ≡ rank p c.in-Some-next_from.value = c.from.ensures ∙ c.rank.ensures.rank in
    let none = rw c.in_default-2.is at c.in_ok-x.ensures in
    let tried = one_tried_at c.args.case.now c.args.doms.now c.in_ok-copy-2.field-0 c.in_ok-copy-2.ensures c.slot_at-slot.result c.in-Some-next_from.value c.in_ok-cut-2.cut c.in_ok-cut-2.ensures c.args.place c.slot_at-slot.ensures c.args.pivots.now c.loop-value.k c.domain-domain.result.now c.domain-domain.ensures c.loop-value.invariant.tried c.in-Some-next_from.ensures c.rank.ensures.pivot c.rank.ensures.value none in
    record {
      below = c.first_let-k.ensures.bound;
      tried = skipped c.args.case.now c.args.doms.now c.slot_at-slot.result p (c.from.result + 1) c.first_let-k.result c.domain-domain.result.now c.as_slice-rels.result.now c.domain-domain.ensures c.as_slice-rels.ensures c.first_let-k.ensures.passed
          (subst (λ (n : ℕ). Tried c.args.case.now c.args.doms.now c.slot_at-slot.result p (n + 1)) (sym next_is) tried);
    }

pub search-requires-then-k-first : goal.search-requires-then-k-first
search-requires-then-k-first t c =
    (omega arith, (c.in_ok-easier.ensures.case, (omega arith, fixed_at c.in_ok-easier.easier c.args.doms.now c.in_ok-copy-3.field-0 c.in_ok-copy-3.ensures c.slot_at-slot.result c.in-Some-next_from.value c.in_ok-fixed.fixed c.in_ok-fixed.ensures c.args.place c.slot_at-slot.ensures c.requires.fixed)))

pub returns-then-is_none : goal.returns-then-is_none
returns-then-is_none t c =
    let nothing = rw (left_none c.in_ok-search.field-0 c.is_none.result c.is_none.ensures c.if-is_none.true) at c.in_ok-search.ensures in
    left_at_once c.args.case.now c.in_ok-easier.easier c.args.doms.now c.in_ok-copy-3.field-0 c.slot_at-slot.result c.in-Some-next_from.value c.in_ok-fixed.fixed c.in_ok-easier.ensures.easier c.in_ok-copy-3.ensures c.in_ok-fixed.ensures
    (subst (λ (xs : List ℕ). is_in xs c.in-Some-next_from.value ≡ true) c.domain-domain.ensures c.in-Some-next_from.ensures.0)
    nothing
