use Rattle.std.proofs.Common.{◌≡◌, ◌≤◌, ◌-◌, ◌^◌}
use Rattle.fd_prob.specs.Spaces.{pages_below}
use Rattle.fd_prob.proofs.pages.pages_of.Given as goal

abbrev pub invariant-loop-page : goal.invariant-loop-page
invariant-loop-page l = record {
  counted : l.pages ≡ pages_below l.page l.set;
  few : l.pages ≤ l.page;
  within : l.page ≤ 2 ^ 20;
}

abbrev pub decreases-loop-page : goal.decreases-loop-page
decreases-loop-page l = 2 ^ 20 - l.page
