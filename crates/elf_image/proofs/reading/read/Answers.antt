use Rattle.std.proofs.Common.{arith}
use Rattle.elf_image.proofs.Found.{is_found, is_only, is_wrong}
use Rattle.elf_image.proofs.Front.{no_head}
use Rattle.elf_image.proofs.reading.read.Goals as goal

pub returns-clause-found : goal.returns-clause-found
returns-clause-found c = is_found c.args.bytes.now c.read_parts.result c.read_parts.ensures.is

pub returns-clause-only : goal.returns-clause-only
returns-clause-only c = λ x w e. is_only c.template_law.ensures c.args.bytes.now c.read_parts.result (λ i. omega (arith, c.type_inv.bytes i)) c.read_parts.ensures.is x w e

pub returns-clause-wrong : goal.returns-clause-wrong
returns-clause-wrong c = λ k e. is_wrong c.args.bytes.now c.read_parts.result k c.read_parts.ensures.is e

pub returns-clause-header : goal.returns-clause-header
returns-clause-header c = λ lacks. c.read_parts.ensures.header (no_head c.args.bytes.now (λ i. omega (arith, c.type_inv.bytes i)) lacks)
