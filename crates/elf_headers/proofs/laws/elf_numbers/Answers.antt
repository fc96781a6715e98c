use Rattle.std.proofs.Common.{refl}
use Rattle.elf_headers.proofs.laws.elf_numbers.Goals as goal

pub returns : goal.returns
returns c = record {
  magic = (refl, refl, refl, refl);
  ident = (refl, refl, refl, refl);
  places = (refl, refl);
  header = (refl, refl);
  sizes = (refl, refl);
  segments = (refl, refl);
  flags = (refl, refl, refl);
  align = refl;
  notes = (refl, refl, refl, refl, refl);
  name_size = refl;
  version = refl;
}
