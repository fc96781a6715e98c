-- The test of a template's text, or why none is given.
use Rattle.std.specs.Prelude.{◌≡◌, List, ℕ, Err, ◌⊎◌}
use Rattle.tpl_lang.specs.declared.fault.Fault.{Fault}
use Rattle.tpl_ast.specs.declared.template.Template.{Template}
use Rattle.tpl_lang.specs.Parsing.{Parses, parses}
use Rattle.tpl_admit.specs.declared.certificate.Cert.{Cert}
use Rattle.gen_turn.specs.Generating.{IsGivenUp, IsOfTest}
use Rattle.trace_text.specs.Faults.{fault_text}
use Rattle.trace_text.specs.Verdicts.{gave_up_text}
use Rattle.tool_words.specs.declared.command.Effort.{Effort}

-- The certificate of the test in which the search for one of the text's template is done. It is well-formed, valid and faithful (`IsOfTest`): from every
-- system that agrees with its start, under every order of steps, each hart's steps are its records, and its end holds; the template admits the trace.
pub record IsTest (effort : Effort) (text : List ℕ) (certificate : Cert) : Type 0 where
  pub parses : Parses text certificate.template
  pub found : IsOfTest certificate.template effort.seed effort.nodes effort.turns certificate

-- the search for a test of the text's template gave up, and the line tells its numbers
pub record IsGaveUpLine (effort : Effort) (text line : List ℕ) : Type 0 where
  pub template : Template
  pub parses : Parses text template
  pub none_fits : ℕ
  pub spent : ℕ
  pub last_line : ℕ
  pub given_up : IsGivenUp template effort.seed effort.nodes effort.turns none_fits spent last_line
  pub line_is : line ≡ gave_up_text none_fits spent last_line

-- the text is no template, and the line says what is wrong with it
abbrev pub IsTemplateLine : List ℕ → List ℕ → Type 0
IsTemplateLine text line = (f : Fault) × (parses text ≡ Err f) × (line ≡ fault_text f)

-- no test of the text is given, and the line says why, with the status: 3 for a text that is no template, 5 where the search gave up
abbrev pub IsRefusal : Effort → List ℕ → ℕ → List ℕ → Type 0
IsRefusal effort text status line = ((status ≡ 3) × IsTemplateLine text line) ⊎ ((status ≡ 5) × IsGaveUpLine effort text line)
