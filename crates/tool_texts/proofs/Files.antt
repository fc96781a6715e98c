-- Bytes are the file of certificates that tell the same, and have one first wrong part at most.
use Rattle.std.proofs.Common.{◌≡◌, ℕ, ◌<◌, ◌≤◌, inl, inr, List, length, refl, sym, ◌∙◌, ap, arith}
use Rattle.std.specs.List.{AllByRecursion}
use Rattle.tpl_admit.specs.declared.certificate.Cert.{Cert}
use Rattle.tpl_admit.specs.Sizes.{file_size}
use Rattle.tpl_admit.specs.WellFormed.{IsWellFormed}
use Rattle.elf_image.specs.File.{file_bytes}
use Rattle.elf_image.specs.Parts.{IsFirstWrong, LacksHead}
use Rattle.elf_image.specs.Told.{told}
use Rattle.trace_text.specs.Verdicts.{malformed_text}
use Rattle.tool_texts.specs.Files.{IsFileOf, IsMalformed}

-- the laws of files
abbrev pub OneSpelling : Type 0
OneSpelling = (a b : Cert) → IsWellFormed a → IsWellFormed b → file_bytes a ≡ file_bytes b → told a ≡ told b

abbrev pub OneFirstWrong : Type 0
OneFirstWrong = (bytes : List ℕ) (j k : ℕ) → AllByRecursion (λ b. b < 256) bytes → IsFirstWrong bytes j → IsFirstWrong bytes k → j ≡ k

abbrev pub FilesHaveTheirLengths : Type 0
FilesHaveTheirLengths = (c : Cert) → length (file_bytes c) ≡ file_size c

pub one_told : OneSpelling → (bytes : List ℕ) (a b : Cert) → IsFileOf bytes a → IsFileOf bytes b → told a ≡ told b
one_told one bytes a b f g = one a b f.well_formed g.well_formed (sym f.is_file ∙ g.is_file)

pub one_malformed : OneFirstWrong → (bytes : List ℕ) → AllByRecursion (λ b. b < 256) bytes → (l m : List ℕ) → IsMalformed bytes l → IsMalformed bytes m → l ≡ m
one_malformed one bytes fits l m v w = v.line_is ∙ ap malformed_text (one bytes v.part w.part fits v.first w.first) ∙ sym w.line_is

-- ---- bytes that are too many

pub file_short : FilesHaveTheirLengths → (bytes : List ℕ) (c : Cert) → IsFileOf bytes c → length bytes < 8388609
file_short long bytes c is = omega (arith, ap length is.is_file, long c, is.well_formed.size)

no_head : (bytes : List ℕ) → 8388609 ≤ length bytes → LacksHead bytes
no_head bytes many = λ head rest is. absurd (omega (arith, many, is.size))

-- of too many bytes the first part is wrong
first_part : (bytes : List ℕ) (k : ℕ) → 8388609 ≤ length bytes → IsFirstWrong bytes k → k ≡ 1
first_part bytes k many (inl w) = w.0
first_part bytes k many (inr (inl w)) = absurd (no_head bytes many w.1.0.head w.1.0.rest w.1.0.is)
first_part bytes k many (inr (inr (inl w))) = absurd (no_head bytes many w.1.0.one.head w.1.0.one.rest w.1.0.one.is)
first_part bytes k many (inr (inr (inr (inl w)))) = absurd (no_head bytes many w.1.0.two.one.head w.1.0.two.one.rest w.1.0.two.one.is)
first_part bytes k many (inr (inr (inr (inr (inl w))))) = absurd (no_head bytes many w.1.0.three.two.one.head w.1.0.three.two.one.rest w.1.0.three.two.one.is)
first_part bytes k many (inr (inr (inr (inr (inr w))))) = absurd (no_head bytes many w.1.0.four.three.two.one.head w.1.0.four.three.two.one.rest w.1.0.four.three.two.one.is)

pub long_malformed : FilesHaveTheirLengths → (a b line : List ℕ) → 8388609 ≤ length a → 8388609 ≤ length b → IsMalformed a line → IsMalformed b line
long_malformed long a b line many many' w = record {
  none = λ c is. absurd (omega (arith, many', file_short long b c is));
  part = 1;
  first = inl (refl, no_head b many');
  line_is = w.line_is ∙ ap malformed_text (first_part a w.part many w.first);
}
