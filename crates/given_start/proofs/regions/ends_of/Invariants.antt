use Rattle.std.proofs.Common.{◌≡◌, take, map}
use Rattle.given_start.proofs.regions.ends_of.Given as goal

abbrev pub invariant-loop-region : goal.invariant-loop-region
invariant-loop-region l = l.ends.items ≡ map (λ r. (r.low, r.high)) (take l.region-index l.fn.ram)
