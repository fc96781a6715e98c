-- Laws of the demo's texts.
use Rattle.std.specs.Prelude.{◌≡◌, ℕ, ◌<◌, ◌≤◌, Ok, length}
use Rattle.tpl_admit.specs.declared.certificate.Cert.{Cert}
use Rattle.tpl_ast.specs.declared.template.Template.{Template}
use Rattle.tpl_ast.specs.Limits.{text_room}
use Rattle.tpl_lang.specs.Parsing.{Parses, parses}
use Rattle.cover_sweep.specs.Said.{demo_said}
use Rattle.cover_sweep.specs.Summary.{summary_text}
use Rattle.cover_sweep.specs.Template.{demo_template}

-- for each number up to 2,000 the demo template is a text of the language, which says the demo of this number
abbrev pub DemosAreRead : Type 0
DemosAreRead = (n : ℕ) → n ≤ 2000 → parses (demo_template n) ≡ Ok (demo_said n)

-- so there is a template that it says
abbrev pub DemosAreTemplates : Type 0
DemosAreTemplates = (n : ℕ) → n ≤ 2000 → (t : Template) × Parses (demo_template n) t

-- a summary fits into the room for a text
abbrev pub SummariesAreShort : Type 0
SummariesAreShort = (n : ℕ) (c : Cert) → length (summary_text n c) < text_room
