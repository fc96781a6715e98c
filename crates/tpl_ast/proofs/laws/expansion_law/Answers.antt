use Rattle.tpl_ast.proofs.Told.{lines_tell}
use Rattle.tpl_ast.proofs.laws.expansion_law.Goals as goal

pub returns : goal.returns
returns c = lines_tell
