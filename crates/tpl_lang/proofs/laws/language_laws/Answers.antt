use Rattle.tpl_lang.proofs.Alike.{before, behind, beside, between, comments}
use Rattle.tpl_lang.proofs.laws.language_laws.Goals as goal

pub returns-clause-comments : goal.returns-clause-comments
returns-clause-comments c = comments

pub returns-clause-blanks : goal.returns-clause-blanks
returns-clause-blanks c = record { before = before; behind = behind; between = between; beside = beside }
