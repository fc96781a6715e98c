use Rattle.elf_image.proofs.Found.{one_part}
use Rattle.elf_image.proofs.laws.one_first_wrong.Goals as goal

pub returns : goal.returns
returns c = λ bytes j k fits v w. one_part bytes j k fits v w
