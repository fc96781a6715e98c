-- What `gen` answers.
use Rattle.std.specs.Prelude.{◌≡◌, List, ℕ, [], ◌⊎◌}
use Rattle.tpl_admit.specs.declared.certificate.Cert.{Cert}
use Rattle.elf_image.specs.File.{file_bytes}
use Rattle.trace_text.specs.Report.{report_text}
use Rattle.tool_words.specs.declared.command.Effort.{Effort}
use Rattle.tool_texts.specs.Tests.{IsRefusal, IsTest}

-- the file of the text's test, and its report
pub record AreTexts (effort : Effort) (text out report : List ℕ) : Type 0 where
  pub certificate : Cert
  pub test : IsTest effort text certificate
  pub out_is : out ≡ file_bytes certificate
  pub report_is : report ≡ report_text certificate

-- 0: the file of the test to `out`, and its report to `report`
-- 3, 5: none is given, and a line says why
abbrev pub GenAnswers : Effort → List ℕ → ℕ → List ℕ → List ℕ → Type 0
GenAnswers effort bytes status out report = ((status ≡ 0) × AreTexts effort bytes out report) ⊎ ((out ≡ []) × IsRefusal effort bytes status report)
