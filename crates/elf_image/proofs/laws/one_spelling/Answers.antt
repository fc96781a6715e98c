use Rattle.elf_image.proofs.Found.{same_told}
use Rattle.elf_image.proofs.laws.one_spelling.Goals as goal

pub returns : goal.returns
returns c = λ a b w v e. same_told c.template_law.ensures a b w v e
