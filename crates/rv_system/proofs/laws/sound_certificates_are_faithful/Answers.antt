use Rattle.rv_system.proofs.Law.{faithful, first_agrees}
use Rattle.rv_system.proofs.Fills.{fills_agree, fills_are_all, fills_are_kept, fills_are_legal, machines_fill, zero_is_a_fill}
use Rattle.rv_system.proofs.laws.sound_certificates_are_faithful.Goals as goal

pub returns-clause-faithful : goal.returns-clause-faithful
returns-clause-faithful c = faithful

pub returns-clause-agreed : goal.returns-clause-agreed
returns-clause-agreed c = first_agrees

pub returns-clause-filled : goal.returns-clause-filled
returns-clause-filled c = fills_agree

pub returns-clause-kept : goal.returns-clause-kept
returns-clause-kept c = fills_are_kept

pub returns-clause-all : goal.returns-clause-all
returns-clause-all c = fills_are_all

pub returns-clause-legal : goal.returns-clause-legal
returns-clause-legal c = fills_are_legal

pub returns-clause-machines : goal.returns-clause-machines
returns-clause-machines c = machines_fill

pub returns-clause-zero : goal.returns-clause-zero
returns-clause-zero c = zero_is_a_fill
