use Rattle.std.proofs.Common.{ℕ, ◌+◌, ◌&&◌, leb, ltb, ap, ◌∙◌, arith}
use Rattle.set_pieces.specs.Internal.Patterns.{matches}
use Rattle.set_pieces.specs.Internal.Runs.{in_run}
use Rattle.set_pieces.proofs.Masking.{around_is}
use Rattle.set_pieces.proofs.masked.round_ends.Goals as goal

pub returns-clause-held : goal.returns-clause-held
unfolding in_run
returns-clause-held c = λ y le.
    around_is (matches c.args.run.pattern) (in_run c.in_ok-part.part) c.args.run.low c.args.run.high c.args.mask c.in_ok-first.first c.in_ok-last.last
    c.round_low.result c.round_end.result y
    (λ z. c.in_ok-part.ensures.held z ∙ ap (λ (n : ℕ). in_run c.args.run z && (leb 0 z && ltb z (n + 1))) c.from.ensures)
    (record {
      first_is = c.in_ok-first.ensures.0;
      none_below = λ z before. c.in_ok-first.ensures.2 z (omega arith) before;
      last_is = c.in_ok-last.ensures.0;
      none_above = c.in_ok-last.ensures.1;
      from_most = c.round_low.ensures.most;
      none_from = c.round_low.ensures.none;
      end_least = c.round_end.ensures.least;
      none_to = c.round_end.ensures.none;
    })
    le
