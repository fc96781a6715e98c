-- What `demo` answers.
use Rattle.std.specs.Prelude.{◌≡◌, List, ℕ, [], ◌⊎◌}
use Rattle.tpl_admit.specs.declared.certificate.Cert.{Cert}
use Rattle.cover_sweep.specs.Summary.{summary_text}
use Rattle.cover_sweep.specs.Template.{demo_template}
use Rattle.tool_words.specs.declared.command.Effort.{Effort}
use Rattle.tool_texts.specs.Tests.{IsGaveUpLine, IsTest}

-- the number is the seed, and the budgets are those that `gen` takes where none is given
abbrev pub demo_effort : ℕ → Effort
demo_effort n = record { seed = n; nodes = 67108864; turns = 65536 }

-- The summary of the test of the number's demo template. The test is valid, as that of each text is (`IsTest`).
pub record IsDemo (n : ℕ) (text : List ℕ) : Type 0 where
  pub certificate : Cert
  pub test : IsTest (demo_effort n) (demo_template n) certificate
  pub text_is : text ≡ summary_text n certificate

-- 0: the summary of the test to `out`
-- 5: the search gave up, and a line with its numbers to `report`
abbrev pub DemoAnswers : ℕ → ℕ → List ℕ → List ℕ → Type 0
DemoAnswers n status out report = ((status ≡ 0) × IsDemo n out × (report ≡ [])) ⊎ ((status ≡ 5) × (out ≡ []) × IsGaveUpLine (demo_effort n) (demo_template n) report)
