-- What `show` answers.
use Rattle.std.specs.Prelude.{◌≡◌, List, ℕ, [], ◌⊎◌}
use Rattle.tpl_admit.specs.declared.certificate.Cert.{Cert}
use Rattle.trace_text.specs.Report.{report_text}
use Rattle.tool_texts.specs.Files.{IsFileOf, IsMalformed}

-- the bytes are the file of a certificate, valid or not, and the text is its report
pub record IsReportOfFile (bytes text : List ℕ) : Type 0 where
  pub certificate : Cert
  pub file : IsFileOf bytes certificate
  pub text_is : text ≡ report_text certificate

-- 0: the report of a file to `out`
-- 9: no file, and a line that says so to `report`
abbrev pub ShowAnswers : List ℕ → ℕ → List ℕ → List ℕ → Type 0
ShowAnswers bytes status out report = ((status ≡ 0) × IsReportOfFile bytes out × (report ≡ [])) ⊎ ((status ≡ 9) × (out ≡ []) × IsMalformed bytes report)
