-- Which bytes are the file of a certificate, and what is said of others.
use Rattle.std.specs.Prelude.{◌≡◌, List, ℕ}
use Rattle.tpl_admit.specs.declared.certificate.Cert.{Cert}
use Rattle.tpl_admit.specs.WellFormed.{IsWellFormed}
use Rattle.elf_image.specs.File.{file_bytes}
use Rattle.elf_image.specs.Parts.{IsFirstWrong}
use Rattle.trace_text.specs.Verdicts.{malformed_text}

-- the bytes are the file of a well-formed certificate
pub record IsFileOf (bytes : List ℕ) (certificate : Cert) : Type 0 where
  pub well_formed : IsWellFormed certificate
  pub is_file : bytes ≡ file_bytes certificate

-- the bytes are no file, and the line tells their first wrong part
pub record IsMalformed (bytes line : List ℕ) : Type 0 where
  pub none : (certificate : Cert) → IsFileOf bytes certificate → ⊥
  pub part : ℕ
  pub first : IsFirstWrong bytes part
  pub line_is : line ≡ malformed_text part
