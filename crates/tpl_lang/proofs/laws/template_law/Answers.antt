use Rattle.tpl_lang.proofs.Sound.{templates_keep_limits}
use Rattle.tpl_lang.proofs.laws.template_law.Goals as goal

pub returns : goal.returns
returns c = templates_keep_limits
