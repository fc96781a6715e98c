use Rattle.tpl_ast.proofs.Sums.{choose_size, item_size, repeat_size, seq_size, way_size}
use Rattle.tpl_ast.proofs.laws.size_law.Goals as goal

pub returns : goal.returns
returns c = record { items = item_size; ways = way_size; seq = seq_size; repeat = repeat_size; choose = choose_size }
