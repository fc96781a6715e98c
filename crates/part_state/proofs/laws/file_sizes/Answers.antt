use Rattle.part_state.proofs.FileSizes.{file_sizes}
use Rattle.part_state.proofs.laws.file_sizes.Goals as goal

pub returns : goal.returns
returns c = file_sizes c.template_law.ensures
