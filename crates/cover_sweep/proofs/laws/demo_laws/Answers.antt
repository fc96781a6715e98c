use Rattle.cover_sweep.proofs.Demo.{demo_read}
use Rattle.cover_sweep.proofs.Made.{demo_template_is}
use Rattle.cover_sweep.proofs.Short.{summary_short}
use Rattle.cover_sweep.proofs.laws.demo_laws.Goals as goal

pub returns-clause-read : goal.returns-clause-read
returns-clause-read c = demo_read c.set_laws.ensures.pass c.statement_law.ensures

pub returns-clause-templates : goal.returns-clause-templates
returns-clause-templates c = demo_template_is c.set_laws.ensures.pass c.statement_law.ensures

pub returns-clause-short : goal.returns-clause-short
returns-clause-short c = summary_short
