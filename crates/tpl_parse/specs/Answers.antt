-- What the parser returns, against the definition of the language.
use Rattle.std.specs.Prelude.{◌≡◌, ℕ, Result, Ok, Err}
use Rattle.tpl_lang.specs.declared.fault.Fault.{Fault}
use Rattle.tpl_lang.specs.declared.fault.Kind.{Kind}
use Rattle.tpl_lang.specs.declared.fault.Kind.TheVariants.{Unexpected}
use Rattle.tpl_ast.specs.declared.template.Template.{Template}
use Rattle.tpl_lang.specs.Parsing.{Said, fault, said_by}
use Rattle.tpl_parse.specs.declared.error.ParseError.{ParseError}
use Rattle.tpl_parse.specs.declared.error.ParseError.TheVariants as errors
use Rattle.tpl_parse.specs.declared.error.Trouble.{Trouble}
use Rattle.tpl_parse.specs.declared.error.Trouble.TheVariants as troubles
use Rattle.tpl_cursor.specs.declared.stop.Stop.{Stop}
use Rattle.tpl_cursor.specs.declared.stop.Stop.TheVariants as stops

abbrev pub trouble_of : Stop → Trouble
trouble_of stops.Memory = troubles.Memory
trouble_of stops.Unexpected = troubles.Fault Unexpected

-- nothing is said where memory ran out
abbrev pub Refuses : {Y : Type 0} → Trouble → Result Y Kind → Type 0
Refuses troubles.Memory said = Unit {0}
Refuses (troubles.Fault kind) said = said ≡ Err kind

-- a statement or a line leads to what is known then, or has a fault
abbrev pub Meets : {X Y : Type 0} → Y → Result X Trouble → Result Y Kind → Type 0
Meets y (Ok x) said = said ≡ Ok y
Meets y (Err t) said = Refuses t said

-- the error of a line
abbrev pub at_line : ℕ → Trouble → ParseError
at_line line troubles.Memory = errors.OutOfMemory
at_line line (troubles.Fault kind) = errors.Fault (fault line kind)

abbrev pub Denies : ParseError → Result Said Fault → Type 0
Denies errors.OutOfMemory said = Unit {0}
Denies (errors.Fault f) said = said ≡ Err f

-- what is returned for a text, seen by view, is what the text says, or its fault; nothing is said where memory ran out
abbrev pub Answers : {X : Type 0} → (X → Said) → Result X ParseError → Result Said Fault → Type 0
Answers view (Ok x) said = said ≡ Ok (view x)
Answers view (Err e) said = Denies e said

-- what is returned says this; otherwise memory ran out
abbrev pub IsSaid : Said → Result Template ParseError → Type 0
IsSaid said (Ok t) = said_by t ≡ said
IsSaid said (Err e) = e ≡ errors.OutOfMemory
