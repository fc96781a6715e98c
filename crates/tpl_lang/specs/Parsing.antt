-- The lines of a text, each judged behind those before it, and what they say together.
use Rattle.std.specs.Prelude.{◌≡◌, if◌then◌else◌, ℕ, ◌+◌, Bool, true, false, not, ◌&&◌, ◌==◌, nat_lt, List, [], ◌∷◌, map, length, Option, Some, None, Result, Ok, Err}
use Rattle.std.specs.List.{list_any}
use Rattle.tpl_lang.specs.declared.fault.Fault.{Fault as AFault}
use Rattle.tpl_lang.specs.declared.fault.Kind.{Kind}
use Rattle.tpl_lang.specs.declared.fault.Kind.TheVariants as kinds
use Rattle.tpl_ast.specs.declared.template.NameDecl.{NameDecl}
use Rattle.tpl_ast.specs.declared.template.Region.{Region}
use Rattle.tpl_ast.specs.declared.template.Template.{Template}
use Rattle.tpl_lang.specs.Lines.{lines, stripped, is_bad_byte, uncommented}
use Rattle.tpl_lang.specs.Tokens.{Token, tokens_of}
use Rattle.tpl_lang.specs.Phrases.{Phrase}
use Rattle.tpl_lang.specs.Reading.{statement_of}
use Rattle.tpl_lang.specs.Sets.{listed}
use Rattle.tpl_ast.specs.Limits.{most_text}
use Rattle.tpl_ast.specs.Bodies.{HartLines, hart_lines}
use Rattle.tpl_lang.specs.Known.{Known, nothing}
use Rattle.tpl_lang.specs.Faults.{is_finished}
use Rattle.tpl_lang.specs.Kinds.{fault_of}
use Rattle.tpl_lang.specs.Statements.{after}

-- ---- the lines of a text

abbrev pub statement_parsed : Known → ℕ → Bool → Phrase → Result Known Kind
statement_parsed k line last p = elim (fault_of k last p) [
  | Some kind ↦ Err kind
  | None ↦ Ok (after k line p)
]

abbrev pub phrase_parsed : Known → ℕ → Bool → Option Phrase → Result Known Kind
phrase_parsed k line last None = Err kinds.Unexpected
phrase_parsed k line last (Some p) = statement_parsed k line last p

-- a line of these tokens; a line without any is none that a block may end with
unfoldable pub tokens_parsed : Known → ℕ → List Token → Bool → Result Known Kind
tokens_parsed k line ts last =
    if length ts == 0 then (if last && not (is_finished k) then Err kinds.Unexpected else Ok k)
    else phrase_parsed k line last (statement_of ts)

abbrev pub tokens_read : Known → ℕ → Bool → Option (List Token) → Result Known Kind
tokens_read k line last None = Err kinds.Unexpected
tokens_read k line last (Some ts) = tokens_parsed k line ts last

-- a line of these bytes
unfoldable pub line_parsed : Known → ℕ → List ℕ → Bool → Result Known Kind
line_parsed k line bytes last = if list_any is_bad_byte bytes then Err kinds.BadByte else tokens_read k line last (tokens_of (uncommented bytes))

-- what a text says, but for its bytes, with bodies as the lists of their lines
pub record Said : Type 0 where
  pub ram : List Region
  pub pool : List ℕ
  pub tables : List ℕ
  pub flags : List ℕ
  pub vectors : List ℕ
  pub words : List (ℕ × ℕ)
  pub names : List NameDecl
  pub harts : List HartLines

-- where no vectors are given, the addresses of instructions in the pool's frames
abbrev pub vectors_of : Option (List ℕ) → List ℕ → List ℕ
vectors_of (Some ns) pool = ns
vectors_of None pool = listed (map (λ f. (f, f + 4095)) pool) 4

abbrev pub said : Known → Said
said k = record {
  ram = k.ram;
  pool = k.pool;
  tables = k.tables;
  flags = k.flags;
  vectors = vectors_of k.vectors k.pool;
  words = k.words;
  names = k.names;
  harts = k.harts;
}

-- what a template says, but for the bytes of its text
abbrev pub said_by : Template → Said
said_by t = record {
  ram = t.ram;
  pool = t.pool;
  tables = t.tables;
  flags = t.flags;
  vectors = t.vectors;
  words = t.words;
  names = t.names;
  harts = map hart_lines t.harts;
}

abbrev pub fault : ℕ → Kind → AFault
fault line kind = record { line = line; kind = kind }

-- the lines in turn, each judged after those before it; the first that has a fault decides
abbrev pub lines_parsed : Known → ℕ → List (List ℕ) → Result Said AFault
lines_parsed k n [] = Ok (said k)
lines_parsed k n (l ∷ []) = elim (line_parsed k n l true) [
  | Err kind ↦ Err (fault n kind)
  | Ok next ↦ Ok (said next)
]
lines_parsed k n (l ∷ m ∷ ls) = elim (line_parsed k n (stripped l) false) [
  | Err kind ↦ Err (fault n kind)
  | Ok next ↦ lines_parsed next (n + 1) (m ∷ ls)
]

-- what a text says, or its first faulty line with the least kind of fault on it
unfoldable pub parses : List ℕ → Result Said AFault
parses text = if nat_lt most_text (length text) then Err (fault 0 kinds.TooLong) else lines_parsed nothing 1 (lines text)

-- the template is what the text says
pub record Parses (bytes : List ℕ) (t : Template) : Type 0 where
  pub text : t.text ≡ bytes
  pub says : parses bytes ≡ Ok (said_by t)
