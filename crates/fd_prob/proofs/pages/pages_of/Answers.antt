use Rattle.std.proofs.Common.{◌≡◌, ℕ, ◌-◌, ◌/◌, ◌+◌, ◌*◌, ◌<◌, ◌≤◌, ◌^◌, Option, IfSome, sym, subst, ◌∙◌, arith}
use Rattle.fd_prob.specs.Spaces.{pages_below}
use Rattle.fd_prob.proofs.PageCounts.{advance, ending, run_to, spread_by, starting}
use Rattle.fd_prob.proofs.pages.pages_of.Goals as goal

pub returns-then-is_some : goal.returns-then-is_some
returns-then-is_some c = c.size-size.ensures.size ∙ sym (spread_by c.args.set.now c.bits_under.result (sym c.is_some.ensures ∙ c.if-is_some.true) c.size-size.ensures.ascending c.size-size.ensures.words c.bits_under.ensures)

pub loop-page-init : goal.loop-page-init
loop-page-init c = record { counted = sym (starting c.args.set.now); few = omega arith; within = omega arith }

pub returns-in_default : goal.returns-in_default
returns-in_default c = c.loop-page.invariant.counted ∙ sym (ending c.args.set.now c.loop-page.page c.loop-page.invariant.within (sym c.first_not_below.ensures.first ∙ c.in_default.is))

pub loop-page-smaller : goal.loop-page-smaller
loop-page-smaller c =
    let P : Option ℕ → Type 0 = λ o. IfSome o (λ x. (c.loop-page.page * 4096 ≤ x) × (x < 2 ^ 32)) in
    let within : (c.loop-page.page * 4096 ≤ c.in-Some.x) × (c.in-Some.x < 2 ^ 32) = subst P c.in-Some.is c.first_not_below.ensures.within in
    omega (arith, within, c.loop-page-test.true, c.pages_end-page.ensures.reached, c.pages_end-page.ensures.most)

pub loop-page-preserved : goal.loop-page-preserved
loop-page-preserved c =
    let P : Option ℕ → Type 0 = λ o. IfSome o (λ x. (c.loop-page.page * 4096 ≤ x) × (x < 2 ^ 32)) in
    let within : (c.loop-page.page * 4096 ≤ c.in-Some.x) × (c.in-Some.x < 2 ^ 32) = subst P c.in-Some.is c.first_not_below.ensures.within in
    let own : pages_below (c.in-Some.x / 4096 + 1) c.args.set.now ≡ pages_below c.loop-page.page c.args.set.now + 1 = advance c.args.set.now c.loop-page.page c.in-Some.x c.size-size.ensures.ascending (sym c.first_not_below.ensures.first ∙ c.in-Some.is) in
    let more : pages_below c.pages_end-page.result c.args.set.now ≡ pages_below (c.in-Some.x / 4096 + 1) c.args.set.now + (c.pages_end-page.result - (c.in-Some.x / 4096 + 1)) = run_to c.args.set.now (c.in-Some.x / 4096 + 1) c.pages_end-page.result c.pages_end-page.ensures.reached c.pages_end-page.ensures.held in
    record {
      counted = omega (arith, own, more, c.loop-page.invariant.counted, c.pages_end-page.ensures.reached, c.from.ensures);
      few = omega (arith, within, c.loop-page.invariant.few, c.pages_end-page.ensures.reached, c.from.ensures);
      within = omega (arith, c.pages_end-page.ensures.most);
    }
