use Rattle.tpl_lang.proofs.Wished.{leaf_told}
use Rattle.tpl_lang.proofs.laws.leaf_law.Goals as goal

pub returns : goal.returns
returns c = leaf_told
