-- Laws of the language.
use Rattle.std.specs.Prelude.{◌≡◌, ℕ, ◌<◌, ◌≤◌, ◌↔◌, Bool, true, false, not, ◌&&◌, ◌||◌, List, [], ◌∷◌, ◌++◌, map, length, Ok, Err, Some, None}
use Rattle.std.specs.List.{list_any}
use Rattle.rv_csr.specs.declared.table.Register.{Register}
use Rattle.rv_csr.specs.Table.{row_of}
use Rattle.rv_isa.specs.declared.operation.Op.{Op}
use Rattle.rv_isa.specs.Names.{name_of}
use Rattle.tpl_lang.specs.declared.fault.Kind.{Kind}
use Rattle.tpl_lang.specs.declared.fault.Kind.TheVariants.{TooLong}
use Rattle.tpl_lang.specs.declared.fault.Kind.TheVariants as kinds
use Rattle.tpl_ast.specs.declared.template.HartDecl.{HartDecl}
use Rattle.tpl_ast.specs.declared.template.Item.{Item}
use Rattle.tpl_ast.specs.declared.template.Template.{Template}
use Rattle.tpl_ast.specs.declared.template.Wish.{Wish}
use Rattle.tpl_lang.specs.declared.words.Key.{Key}
use Rattle.tpl_ast.specs.Bodies.{lines_of_body, hart_lines}
use Rattle.tpl_lang.specs.Reading.{statement_of}
use Rattle.tpl_ast.specs.Leaves.{IsLeaf, atoms_of, is_leaf}
use Rattle.tpl_ast.specs.Lengths.{length_of_body, length_of_harts, saturated}
use Rattle.tpl_lang.specs.Lines.{is_bad_byte, lines, stripped, uncommented}
use Rattle.tpl_lang.specs.Grammar.{Spells}
use Rattle.tpl_lang.specs.Tokens.{Token, is_blank, joins, tokens_of}
use Rattle.tpl_lang.specs.Faults.{is_name_twice, is_phrase_above, is_phrase_long, allows, body_length, is_bad_ram, is_bad_start, is_deep, is_double, is_empty, is_last, is_long, is_unknown, passes_count}
use Rattle.tpl_lang.specs.Kinds.{fault_of, kind_number}
use Rattle.tpl_lang.specs.Known.{Known, nothing}
use Rattle.tpl_lang.specs.Parsing.{Parses, fault, parses, line_parsed}
use Rattle.tpl_lang.specs.Phrases.{Phrase}
use Rattle.tpl_ast.specs.Templates.{KeepsLimits}
use Rattle.tpl_lang.specs.Words.{csr_of, key_of, op_of, spelling_of}
use Rattle.tpl_ast.specs.Limits.{most_text}

-- a text of more than 65,536 bytes is refused as a whole
abbrev pub LongTextsAreRefused : Type 0
LongTextsAreRefused = (text : List ℕ) → most_text < length text → parses text ≡ Err (fault 0 TooLong)

-- ---- what a text says depends on the tokens of its lines alone

-- both lines have a byte that isn't allowed, or neither, and up to their comments they have the same tokens
abbrev pub ReadAlike : List ℕ → List ℕ → Type 0
ReadAlike l m = (list_any is_bad_byte l ≡ list_any is_bad_byte m) × (tokens_of (uncommented l) ≡ tokens_of (uncommented m))

-- as many lines, which read alike one by one; a carriage return before a line feed is no part of a line
abbrev pub AreAlike : List (List ℕ) → List (List ℕ) → Type 0
AreAlike [] [] = Unit {0}
AreAlike (l ∷ []) (m ∷ []) = ReadAlike l m
AreAlike (l ∷ l' ∷ ls) (m ∷ m' ∷ ms) = ReadAlike (stripped l) (stripped m) × AreAlike (l' ∷ ls) (m' ∷ ms)
AreAlike _ _ = ⊥

abbrev pub TokensDecide : Type 0
TokensDecide = (text other : List ℕ) → length text ≤ most_text → length other ≤ most_text → AreAlike (lines text) (lines other) → parses text ≡ parses other

-- a comment at the end of a line says nothing, where its bytes are allowed
abbrev pub CommentsSayNothing : Type 0
CommentsSayNothing = (l comment : List ℕ) → list_any is_bad_byte comment ≡ false → ReadAlike (l ++ 35 ∷ comment) l

abbrev pub CarriageReturnsSayNothing : Type 0
CarriageReturnsSayNothing = (l : List ℕ) → stripped (l ++ 13 ∷ []) ≡ l

-- blanks before and behind all tokens say nothing, several blanks say what one says, and one between two bytes that stand apart without it says nothing
pub record BlanksSayNothing : Type 0 where
  pub before : (b : ℕ) (l : List ℕ) → is_blank b ≡ true → ReadAlike (b ∷ l) l
  pub behind : (l : List ℕ) (b : ℕ) → is_blank b ≡ true → ReadAlike (l ++ b ∷ []) l
  pub between : (l : List ℕ) (b c : ℕ) (m : List ℕ) → is_blank b ≡ true → is_blank c ≡ true → ReadAlike (l ++ b ∷ c ∷ m) (l ++ b ∷ m)
  pub beside : (l : List ℕ) (x b y : ℕ) (m : List ℕ) → joins x y ≡ false → is_blank b ≡ true → ReadAlike (l ++ x ∷ b ∷ y ∷ m) (l ++ x ∷ y ∷ m)

-- ---- the answer for a faulty text depends on its lines up to the faulty one alone

-- the first lines of both texts are the same, and neither ends with them
abbrev pub FirstFaultDecides : Type 0
FirstFaultDecides =
    (text other : List ℕ) → length text ≤ most_text → length other ≤ most_text
    → (first : List (List ℕ)) (l m : List ℕ) (ls ms : List (List ℕ)) → lines text ≡ first ++ l ∷ ls → lines other ≡ first ++ m ∷ ms
    → (n : ℕ) (kind : Kind) → n ≤ length first → parses text ≡ Err (fault n kind) → parses other ≡ Err (fault n kind)

-- ---- what holds of every template

abbrev pub TemplatesKeepLimits : Type 0
TemplatesKeepLimits = (text : List ℕ) (t : Template) → Parses text t → KeepsLimits text t

-- what the test of a leaf says
abbrev pub LeavesAreKnown : Type 0
LeavesAreKnown = (count : ℕ) (ws : List Wish) → is_leaf count ws ≡ true → IsLeaf count (atoms_of ws)

-- ---- the lengths that bodies are judged by

-- what can be known: nothing before the first line, and what is known behind a line that has no fault there
pub data IsReached : Known → Type 0 where
  Before : IsReached nothing
  Behind : (k next : Known) (line : ℕ) (bytes : List ℕ) (last : Bool) → IsReached k → line_parsed k line bytes last ≡ Ok next → IsReached next

-- the length by which a brace that closes a body is judged is that of the items whose lines stand in it, and that of the ended harts is theirs together
pub record KeepsLengths (k : Known) : Type 0 where
  pub body : (items : List Item) (n : ℕ) → body_length k.blocks ≡ Some n → lines_of_body items ≡ k.body → n ≡ saturated (length_of_body items)
  pub harts : (hs : List HartDecl) → map hart_lines hs ≡ k.harts → k.length ≡ saturated (length_of_harts hs)

abbrev pub LengthsAreKept : Type 0
LengthsAreKept = (k : Known) → IsReached k → KeepsLengths k

-- ---- words

-- each word of the language, each operation's and each register's name is read as what it spells
pub record WordsAreRead : Type 0 where
  pub keys : (k : Key) → key_of (spelling_of k) ≡ Some k
  pub ops : (op : Op) → op_of (name_of op) ≡ Some op
  pub csrs : (r : Register) → csr_of (row_of r).name ≡ Some r

-- a line's tokens are a statement exactly where the statement is spelled with them
abbrev pub StatementsAreSpelled : Type 0
StatementsAreSpelled = (tokens : List Token) (p : Phrase) → (statement_of tokens ≡ Some p) ↔ Spells p tokens

-- ---- the least kind

-- a statement has a fault of the kind; that its bytes are allowed was judged before
abbrev pub has_fault : Known → Bool → Phrase → Kind → Bool
has_fault k last p kinds.BadByte = false
has_fault k last p kinds.Unexpected = not (allows k p) || (last && not (is_last k p))
has_fault k last p kinds.NumberTooLarge = is_phrase_above p
has_fault k last p kinds.UnknownName = is_unknown k p
has_fault k last p kinds.DoubleName = is_double k p
has_fault k last p kinds.NameTwiceInLeaf = is_name_twice p
has_fault k last p kinds.EmptyDomain = is_empty k p
has_fault k last p kinds.TooDeep = is_deep k p
has_fault k last p kinds.TooLong = is_long k p
has_fault k last p kinds.TooMany = is_phrase_long p || passes_count k p
has_fault k last p kinds.BadRam = is_bad_ram k p
has_fault k last p kinds.BadStart = is_bad_start k p

-- a statement's fault is the one with the least number of those that it has, and it has none only where it has no fault of any kind
pub record LeastKindIsTold : Type 0 where
  pub told : (k : Known) (last : Bool) (p : Phrase) (kind : Kind) → fault_of k last p ≡ Some kind → has_fault k last p kind ≡ true
  pub least : (k : Known) (last : Bool) (p : Phrase) (kind other : Kind) → fault_of k last p ≡ Some kind → has_fault k last p other ≡ true → kind_number kind ≤ kind_number other
  pub none : (k : Known) (last : Bool) (p : Phrase) (other : Kind) → fault_of k last p ≡ None → has_fault k last p other ≡ false
