use Rattle.trace_text.proofs.Lengths.{fault_short, gave_up_short, malformed_short, verdict_short}
use Rattle.trace_text.proofs.Reports.{report_short}
use Rattle.trace_text.proofs.Told.{events_short}
use Rattle.trace_text.proofs.laws.length_laws.Goals as goal

pub returns-clause-report : goal.returns-clause-report
returns-clause-report c = report_short c.template_law.ensures

pub returns-clause-fault : goal.returns-clause-fault
returns-clause-fault c = fault_short

pub returns-clause-malformed : goal.returns-clause-malformed
returns-clause-malformed c = malformed_short

pub returns-clause-verdict : goal.returns-clause-verdict
returns-clause-verdict c = verdict_short

pub returns-clause-gave_up : goal.returns-clause-gave_up
returns-clause-gave_up c = gave_up_short

pub returns-clause-events : goal.returns-clause-events
returns-clause-events c = events_short
