use Rattle.rv_csr.specs.declared.table.TheConstants.{REGISTERS}
use Rattle.word_sets.proofs.Registers.{at_addresses}
use Rattle.word_sets.proofs.addresses.legal_addresses.Goals as goal

pub returns : goal.returns
returns c = at_addresses c.args.word REGISTERS c.in_ok-ranges.ranges.items c.in_ok-set.set c.place_laws.ensures.registers c.in_ok-ranges.ensures (rw c.deref.ensures.value at c.in_ok-set.ensures)
