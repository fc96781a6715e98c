use Rattle.std.proofs.Common.{◌≡◌, ◌*◌, ◌<◌, ◌^◌, drop, map}
use Rattle.fd_prob.specs.Spaces.{product_of, saturated, size_in}
use Rattle.fd_prob.proofs.spaces.product_of.Given as goal

abbrev pub invariant-loop-field : goal.invariant-loop-field
invariant-loop-field l = record {
  value : saturated (l.product * product_of (map (size_in l.case) (drop l.field-index l.fields))) ≡ saturated (product_of (map (size_in l.case) l.fields));
  below : l.product < 2 ^ 64;
}
