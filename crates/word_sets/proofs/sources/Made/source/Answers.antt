use Rattle.std.proofs.Common.{arith}
use Rattle.word_sets.proofs.Origins.{from_source, with_source, without_source}
use Rattle.word_sets.proofs.sources.Made.source.Goals as goal

pub returns-in-With : goal.returns-in-With
returns-in-With c v lv = rw c.in-With.is (with_source v c.args.other c.args.pattern.0 c.args.pattern.1 lv (omega arith) (omega arith) (omega arith) c.unless_conflict.result c.unless_conflict.ensures.clear c.unless_conflict.ensures.conflicting)

pub returns-in-Without : goal.returns-in-Without
returns-in-Without c v lv = rw c.in-Without.is (without_source v c.args.other c.args.pattern.0 c.args.pattern.1 lv (omega arith) (omega arith) (omega arith) c.unless_conflict-in-Without.result c.unless_conflict-in-Without.ensures.clear c.unless_conflict-in-Without.ensures.conflicting)

pub returns-in-From : goal.returns-in-From
returns-in-From c v lv = rw c.in-From.is (from_source v c.args.other c.args.pattern.0 c.args.pattern.1 lv (omega arith) (omega arith) (omega arith) c.unless_conflict-in-From.result c.unless_conflict-in-From.ensures.clear c.unless_conflict-in-From.ensures.conflicting)
