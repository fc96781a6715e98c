use Rattle.std.proofs.Common.{◌%◌, ◌^◌, sym, ap, ◌∙◌, arith}
use Rattle.dom_set.proofs.Tracked.{on_track, run_matched}
use Rattle.dom_set.proofs.tracks.track_of.Goals as goal

pub invariant_of-result : goal.invariant_of-result
invariant_of-result c = record { ordered = c.requires.ordered; within = omega arith; ends = ap (λ n. n % 2 ^ 31) (sym c.if-low-high.true) }

pub returns-then-low-high : goal.returns-then-low-high
returns-then-low-high c = λ x held from to. on_track c.args.low c.args.high 31 x from to (ap (λ n. n % 2 ^ 31) (omega (arith, from, to, c.if-low-high.true)))

pub invariant_of-result-2 : goal.invariant_of-result-2
invariant_of-result-2 c = record {
  ordered = c.requires.ordered;
  within = c.shift_of.ensures.within;
  ends = c.shift_of.ensures.same c.args.high (run_matched c.args.run c.args.high c.requires.high) ∙ sym (c.shift_of.ensures.same c.args.low (run_matched c.args.run c.args.low c.requires.low));
}

pub returns : goal.returns
returns c = λ x held from to. on_track c.args.low c.args.high c.shift_of.result x from to
    (c.shift_of.ensures.same x (run_matched c.args.run x held) ∙ sym (c.shift_of.ensures.same c.args.low (run_matched c.args.run c.args.low c.requires.low)))
