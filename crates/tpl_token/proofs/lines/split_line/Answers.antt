use Rattle.std.proofs.Common.{arith}
use Rattle.tpl_token.proofs.LineEnds.{whole_line, cut_line}
use Rattle.tpl_token.proofs.lines.split_line.Goals as goal

pub returns-then-n-bytes-clause-split : goal.returns-then-n-bytes-clause-split
returns-then-n-bytes-clause-split c = whole_line c.args.bytes.now c.length_until-n.result c.length_until-n.ensures.value (omega arith)

pub returns-clause-split : goal.returns-clause-split
returns-clause-split c = cut_line c.args.bytes.now c.length_until-n.result c.length_until-n.ensures.value (omega arith)
