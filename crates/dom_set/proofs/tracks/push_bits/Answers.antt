use Rattle.std.proofs.Common.{◌≡◌, ℕ, sym, ap, ◌∙◌, arith}
use Rattle.std.proofs.lemmas.Bool.{false≢true}
use Rattle.set_pieces.specs.Internal.Patterns.{matches_below}
use Rattle.dom_set.proofs.Tracked.{bit_covered}
use Rattle.dom_set.proofs.tracks.push_bits.Goals as goal

pub loop-bit-init : goal.loop-bit-init
loop-bit-init c = record {
  covered = λ x held none. absurd (false≢true (sym none ∙ c.ends.ensures.none x));
  kept = λ x h. h;
}

pub loop-bit-preserved : goal.loop-bit-preserved
loop-bit-preserved c = record {
  covered = λ x. bit_covered c.args.run c.args.hole c.loop-bit.bit x c.missed.result _ _ (c.missed.ensures x)
      (c.loop-bit.invariant.covered x) c.in_ok-push_run_tracks.ensures.kept (c.in_ok-push_run_tracks.ensures.covered x);
  kept = λ x h. c.in_ok-push_run_tracks.ensures.kept x (c.loop-bit.invariant.kept x h);
}

pub returns-clause-covered : goal.returns-clause-covered
returns-clause-covered c = λ x held none.
    let last : c.loop-bit.bit ≡ 32 = omega arith in
    c.loop-bit.invariant.covered x held (ap (λ (n : ℕ). matches_below c.args.hole n x) last ∙ c.ends.ensures.all x ∙ none)
