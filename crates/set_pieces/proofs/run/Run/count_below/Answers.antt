use Rattle.std.proofs.Common.{◌≡◌, ℕ, ◌+◌, ap, ◌∙◌, arith}
use Rattle.set_pieces.specs.Counting.{one, total}
use Rattle.set_pieces.specs.Internal.Patterns.{matches}
use Rattle.set_pieces.specs.Internal.Runs.{in_run}
use Rattle.set_pieces.proofs.Pieces.{count_none, count_some}
use Rattle.set_pieces.proofs.run.Run.count_below.Goals as goal

pub returns-then-end-low : goal.returns-then-end-low
unfolding in_run
returns-then-end-low c = count_none (matches c.args.self.pattern) c.args.self.low c.args.self.high c.args.x (omega arith) c.args.self.ordered

pub overflow_sub-result : goal.overflow_sub-result
overflow_sub-result c =
    let m : ℕ → ℕ = λ y. one (matches c.args.self.pattern y) in
    let to : c.count_below.result ≡ total m c.min-end.result = c.count_below.ensures in
    let from : c.count_below-else-end-low.result ≡ total m c.args.self.low = c.count_below-else-end-low.ensures ∙ ap (total m) c.from-low.ensures in
    omega (arith, count_some (matches c.args.self.pattern) c.args.self.low c.args.self.high c.args.x c.min-end.result (omega arith) (omega arith))

pub returns-else-end-low : goal.returns-else-end-low
unfolding in_run
returns-else-end-low c =
    let m : ℕ → ℕ = λ y. one (matches c.args.self.pattern y) in
    let to : c.count_below.result ≡ total m c.min-end.result = c.count_below.ensures in
    let from : c.count_below-else-end-low.result ≡ total m c.args.self.low = c.count_below-else-end-low.ensures ∙ ap (total m) c.from-low.ensures in
    let all : total (λ y. one (in_run c.args.self y)) c.args.x + total m c.args.self.low ≡ total m c.min-end.result =
    count_some (matches c.args.self.pattern) c.args.self.low c.args.self.high c.args.x c.min-end.result (omega arith) (omega arith) in
    omega arith
