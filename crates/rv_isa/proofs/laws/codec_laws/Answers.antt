use Rattle.rv_isa.proofs.Codec.{encoded_below, encoded_read, fitting_encoded, fitting_in_range, read_encoded}
use Rattle.rv_isa.proofs.laws.codec_laws.Goals as goal

pub returns-clause-sound : goal.returns-clause-sound
returns-clause-sound c = encoded_read

pub returns-clause-complete : goal.returns-clause-complete
returns-clause-complete c = read_encoded

pub returns-clause-encoded : goal.returns-clause-encoded
returns-clause-encoded c = fitting_encoded

pub returns-clause-words : goal.returns-clause-words
returns-clause-words c = encoded_below

pub returns-clause-ranges : goal.returns-clause-ranges
returns-clause-ranges c = fitting_in_range
