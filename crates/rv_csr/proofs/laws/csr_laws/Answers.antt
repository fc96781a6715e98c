-- The laws are lemmas.
use Rattle.rv_csr.proofs.FlagLemmas.{moves_status, restores_status}
use Rattle.rv_csr.proofs.WriteLemmas.{keeps_written, keeps_hidden}
use Rattle.rv_csr.proofs.laws.csr_laws.Goals as goal

pub returns-clause-written : goal.returns-clause-written
returns-clause-written c = keeps_written

pub returns-clause-hidden : goal.returns-clause-hidden
returns-clause-hidden c = keeps_hidden

pub returns-clause-traps : goal.returns-clause-traps
returns-clause-traps c = moves_status

pub returns-clause-returns : goal.returns-clause-returns
returns-clause-returns c = restores_status
