use Rattle.std.proofs.Common.{arith}
use Rattle.elf_image.specs.Internal.Views.{front_view}
use Rattle.elf_image.proofs.Found.{early, template_wrong, loads_wrong, file_made}
use Rattle.elf_image.proofs.reading.read_parts.Goals as goal

pub returns-in-Err-clause-is : goal.returns-in-Err-clause-is
returns-in-Err-clause-is c = early front_view c.args.bytes.now c.in-Err.e (λ i. omega (arith, c.type_inv.bytes i)) c.in-Err.ensures.gives

pub returns-in-Err-template_of-clause-is : goal.returns-in-Err-template_of-clause-is
returns-in-Err-template_of-clause-is c =
    template_wrong c.args.bytes.now (front_view c.in-Ok.front) c.in-Err-template_of.e c.at.result (λ i. omega (arith, c.type_inv.bytes i)) c.in-Ok.ensures.gives c.in-Err-template_of.ensures.gives c.at.ensures

pub returns-in-Err-loaded_of-clause-is : goal.returns-in-Err-loaded_of-clause-is
returns-in-Err-loaded_of-clause-is c =
    loads_wrong c.args.bytes.now (front_view c.in-Ok.front) c.in-Ok-template_of.template c.in-Err-loaded_of.e c.at-in-Err-loaded_of.result (λ i. omega (arith, c.type_inv.bytes i)) c.in-Ok.ensures.gives
    (record { text = c.in-Ok-template_of.ensures.text; says = c.in-Ok-template_of.ensures.gives }) (rw (c.as_slice.ensures, c.as_slice-start.ensures, c.as_slice-ram.ensures) at c.in-Err-loaded_of.ensures) c.at-in-Err-loaded_of.ensures

pub returns-clause-is : goal.returns-clause-is
returns-clause-is c = file_made c.args.bytes.now (front_view c.in-Ok.front) c.in-Ok-template_of.template c.in-Ok-loaded_of.words (λ i. omega (arith, c.type_inv.bytes i)) c.in-Ok.ensures.gives
    (record { text = c.in-Ok-template_of.ensures.text; says = c.in-Ok-template_of.ensures.gives }) (rw (c.as_slice.ensures, c.as_slice-start.ensures, c.as_slice-ram.ensures) at c.in-Ok-loaded_of.ensures)
