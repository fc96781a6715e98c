-- What a set without numbers that are too large says of its `align`.
use Rattle.std.proofs.Common.{◌≡◌, ℕ, ◌<◌, ◌^◌, false, Some, refl}
use Rattle.std.proofs.lemmas.Bool.{not-false, or_parts}
use Rattle.std.specs.Int.{IsPowerOfTwo}
use Rattle.dom_set.specs.Laws.{PowersAreTested}
use Rattle.tpl_lang.specs.declared.phrase.Numeral.{Numeral}
use Rattle.tpl_lang.specs.Faults.{is_align_wrong, is_large, is_set_above}
use Rattle.tpl_lang.specs.Phrases.{SetPhrase, Named, Listed}
use Rattle.tpl_lang.specs.Sets.{number}
use Rattle.tpl_judge.specs.Internal.Aligns.{is_misaligned}

pub aligned_set : (limit : ℕ) (s : SetPhrase) → is_set_above limit s ≡ false → is_misaligned s ≡ false
aligned_set limit (Named name) fine = refl
aligned_set limit (Listed es align) fine = (or_parts _ (is_align_wrong align) fine).1

pub power : PowersAreTested → (n : Numeral) → number n < 2 ^ 32 → is_align_wrong (Some n) ≡ false → IsPowerOfTwo (number n)
power law n low fine = law (number n) low (not-false _ (or_parts (is_large n) _ fine).1)
