-- What `replay` answers.
use Rattle.std.specs.Prelude.{◌≡◌, List, ℕ, [], ◌⊎◌}
use Rattle.tpl_admit.specs.declared.certificate.Cert.{Cert}
use Rattle.tpl_admit.specs.Validity.{IsValid}
use Rattle.rv_system.specs.Faithfulness.{IsFaithful}
use Rattle.replay_check.specs.Failures.{IsFirstFailure}
use Rattle.replay_check.specs.declared.verdict.Verdict.TheVariants.{Yes, No}
use Rattle.trace_text.specs.Verdicts.{verdict_text}
use Rattle.tool_texts.specs.Files.{IsFileOf, IsMalformed}

-- The bytes are the file of a certificate that is valid. So from every system that agrees with its start, under every order of steps, each hart's steps
-- are its records, and its end holds; and its template admits the trace.
pub record IsValidFile (bytes : List ℕ) : Type 0 where
  pub certificate : Cert
  pub file : IsFileOf bytes certificate
  pub valid : IsValid certificate
  pub faithful : IsFaithful certificate

-- the bytes are the file of a certificate that is not valid, and the line tells its first failure
pub record IsWrongFile (bytes line : List ℕ) : Type 0 where
  pub certificate : Cert
  pub file : IsFileOf bytes certificate
  pub kind : ℕ
  pub hart : ℕ
  pub step : ℕ
  pub failure : IsFirstFailure certificate kind hart step
  pub line_is : line ≡ verdict_text (No kind hart step)

-- 0: a valid file, and `yes` to `out`
-- 9: no file, and a line that says so to `report`
-- 10: a file that is not valid, and its verdict to `out`
abbrev pub ReplayAnswers : List ℕ → ℕ → List ℕ → List ℕ → Type 0
ReplayAnswers bytes status out report =
    ((status ≡ 0) × IsValidFile bytes × (out ≡ verdict_text Yes) × (report ≡ []))
    ⊎ (((status ≡ 9) × (out ≡ []) × IsMalformed bytes report)
    ⊎ ((status ≡ 10) × IsWrongFile bytes out × (report ≡ [])))
