use Rattle.tpl_lang.proofs.Sound.{lengths_are_kept}
use Rattle.tpl_lang.proofs.laws.judged_length_law.Goals as goal

pub returns : goal.returns
returns c = lengths_are_kept
