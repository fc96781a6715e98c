use Rattle.std.proofs.Common.{arith}
use Rattle.word_sets.proofs.Origins.{known_source, some_source}
use Rattle.word_sets.proofs.sources.Made.source_by.Goals as goal

pub returns-in-Some : goal.returns-in-Some
returns-in-Some c v lv = known_source c.args.self v c.args.pattern.0 c.args.pattern.1 c.in-Some.word c.args.other c.source.result c.in-Some.is (omega arith) (c.source.ensures v lv)

pub returns-in-None : goal.returns-in-None
returns-in-None c v lv = some_source c.args.self v c.args.pattern.0 c.args.pattern.1 c.best.result c.args.other c.source-in-None.result c.in-None.is lv (omega arith) (omega arith) (omega arith) c.best.ensures (c.source-in-None.ensures v lv)
