-- Sets of numbers whose `align` is a power of two.
use Rattle.std.specs.Prelude.{Bool, false}
use Rattle.tpl_lang.specs.Faults.{is_align_wrong}
use Rattle.tpl_lang.specs.Phrases.{SetPhrase, Named, Listed}

abbrev pub is_misaligned : SetPhrase → Bool
is_misaligned (Named name) = false
is_misaligned (Listed es align) = is_align_wrong align
