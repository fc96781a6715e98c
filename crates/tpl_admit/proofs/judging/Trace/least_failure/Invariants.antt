use Rattle.std.proofs.Common.{◌≡◌, drop, option_map}
use Rattle.tpl_admit.specs.Admitting.{failures_from, least_among, least_failure}
use Rattle.tpl_admit.specs.Internal.Walks.{trace}
use Rattle.tpl_admit.proofs.judging.Trace.least_failure.Given as goal

abbrev pub invariant-loop-hart : goal.invariant-loop-hart
invariant-loop-hart l = record {
  number : l.k ≡ l.hart-index;
  least : least_among (failures_from (trace l.self) l.k (drop l.hart-index l.self.template.now.harts) (option_map (λ c. c.now) l.choices)) l.least ≡ least_failure (trace l.self);
}
