use Rattle.data_bytes.proofs.Framing.{word_are}
use Rattle.data_bytes.proofs.memory.word_bytes.Goals as goal

pub returns : goal.returns
returns c = word_are c.args.addr c.in_ok-from_ranges.field-0 c.requires c.in_ok-from_ranges.ensures
