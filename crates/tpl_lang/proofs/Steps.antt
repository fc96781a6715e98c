-- A text that says something, line by line.
use Rattle.std.proofs.Common.{◌≡◌, ℕ, ◌+◌, ◌&&◌, ◌||◌, Bool, true, false, not, eqb, cond, List, [], ◌∷◌, length, Option, Some, None, Result, Ok, Err, refl, sym, ap, ◌∙◌, subst}
use Rattle.std.specs.List.{list_any}
use Rattle.tpl_lang.specs.declared.fault.Fault.{Fault}
use Rattle.tpl_lang.specs.declared.fault.Kind.{Kind}
use Rattle.tpl_lang.specs.declared.fault.Kind.TheVariants.{BadByte, BadRam, BadStart, DoubleName, EmptyDomain, NameTwiceInLeaf, NumberTooLarge, TooDeep, TooLong, TooMany, Unexpected, UnknownName}
use Rattle.tpl_lang.specs.Reading.{statement_of}
use Rattle.tpl_lang.specs.Faults.{is_name_twice, is_phrase_above, is_phrase_long, allows, is_bad_ram, is_bad_start, is_deep, is_double, is_empty, is_finished, is_last, is_long, is_unknown, passes_count}
use Rattle.tpl_lang.specs.Kinds.{fault_of}
use Rattle.tpl_lang.specs.Laws.{IsReached, Before, Behind}
use Rattle.tpl_lang.specs.Lines.{is_bad_byte, lines, stripped, to_first, uncommented}
use Rattle.tpl_lang.specs.Known.{Known, nothing}
use Rattle.tpl_lang.specs.Parsing.{Said, fault, said, line_parsed, phrase_parsed, lines_parsed, tokens_read, tokens_parsed}
use Rattle.tpl_lang.specs.Statements.{after}
use Rattle.tpl_lang.specs.Phrases.{Phrase}
use Rattle.tpl_lang.specs.Grammar.{Spells}
use Rattle.tpl_lang.specs.Tokens.{Token, tokens_of}
use Rattle.tpl_lang.proofs.Short.{AreShort, IsShort, OnSome, line_short, spelled_short}
use Rattle.tpl_lang.proofs.Statements.{statements_are_spelled}

pub same_ok : {A B : Type 0} (x y : A) → ◌≡◌ {A = Result A B} (Ok x) (Ok y) → x ≡ y
same_ok x y h = cc

-- ---- a statement

-- a test that has nothing to say is false, and so are those behind it
record IsPassed (c : Bool) (more : Option Kind) : Type 0 where
  false_ : c ≡ false
  rest : more ≡ None

passed : (c : Bool) (kind : Kind) (rest : Option Kind) → cond c (Some kind) rest ≡ None → IsPassed c rest
passed true kind rest h = absurd (cc h)
passed false kind rest h = record { false_ = refl; rest = h }

pub not_false : (a : Bool) → not a ≡ false → a ≡ true
not_false true h = refl
not_false false h = absurd (cc h)

pub not_true : (a : Bool) → not a ≡ true → a ≡ false
not_true true h = absurd (cc h)
not_true false h = refl

pub either_false : (a b : Bool) → a || b ≡ false → (a ≡ false) × (b ≡ false)
either_false false b h = (refl, h)
either_false true b h = absurd (cc h)

-- what is known of a statement that has no fault
pub record Passed (k : Known) (last : Bool) (p : Phrase) : Type 0 where
  pub allowed : allows k p ≡ true
  pub ends : last && not (is_last k p) ≡ false
  pub small : is_phrase_above p ≡ false
  pub known : is_unknown k p ≡ false
  pub once : is_name_twice p ≡ false
  pub some : is_empty k p ≡ false
  pub fits : is_long k p ≡ false
  pub short : is_phrase_long p ≡ false
  pub counts : passes_count k p ≡ false
  pub ram : is_bad_ram k p ≡ false
  pub start : is_bad_start k p ≡ false

passed_all : (k : Known) (last : Bool) (p : Phrase) → fault_of k last p ≡ None → Passed k last p
unfolding fault_of
passed_all k last p none =
    let a = passed (not (allows k p)) Unexpected _ none in
    let b = passed (last && not (is_last k p)) Unexpected _ a.rest in
    let c = passed (is_phrase_above p) NumberTooLarge _ b.rest in
    let d = passed (is_unknown k p) UnknownName _ c.rest in
    let e = passed (is_double k p) DoubleName _ d.rest in
    let f = passed (is_name_twice p) NameTwiceInLeaf _ e.rest in
    let g = passed (is_empty k p) EmptyDomain _ f.rest in
    let i = passed (is_deep k p) TooDeep _ g.rest in
    let j = passed (is_long k p) TooLong _ i.rest in
    let l = passed (is_phrase_long p || passes_count k p) TooMany _ j.rest in
    let m = passed (is_bad_ram k p) BadRam _ l.rest in
    let n = passed (is_bad_start k p) BadStart _ m.rest in
    record {
      allowed = not_false _ a.false_;
      ends = b.false_;
      small = c.false_;
      known = d.false_;
      once = f.false_;
      some = g.false_;
      fits = j.false_;
      short = (either_false (is_phrase_long p) _ l.false_).0;
      counts = (either_false (is_phrase_long p) _ l.false_).1;
      ram = m.false_;
      start = n.false_;
    }

-- ---- a line

-- what a line without a fault says: nothing, or a statement that is spelled with its tokens
pub data Judged (k : Known) (line : ℕ) (bytes : List ℕ) (last : Bool) : Known → Type 0 where
  Blank : last && not (is_finished k) ≡ false → Judged k line bytes last k
  Stated : (p : Phrase) (ts : List Token) → tokens_of (uncommented bytes) ≡ Some ts → Spells p ts → IsShort p → Passed k last p → Judged k line bytes last (after k line p)

pub judged_by : (k next : Known) (line : ℕ) (bytes : List ℕ) (last : Bool) → line_parsed k line bytes last ≡ Ok next → Judged k line bytes last next
unfolding line_parsed tokens_parsed
judged_by k next line bytes last is = go (list_any is_bad_byte bytes) (tokens_of (uncommented bytes)) refl (line_short (uncommented bytes)) is where
  faultless : (ts : List Token) → tokens_of (uncommented bytes) ≡ Some ts → AreShort ts → (p : Phrase) → statement_of ts ≡ Some p
      → (o : Option Kind) → fault_of k last p ≡ o → ◌≡◌ {A = Result Known Kind} (elim o [ Some kind ↦ Err kind | None ↦ Ok (after k line p) ]) (Ok next) → Judged k line bytes last next
  faultless ts at short p said (Some kind) e is = absurd (cc is)
  faultless ts at short p said None e is =
      let spells = (statements_are_spelled ts p).0 said in
      subst (Judged k line bytes last) (same_ok _ _ is) (Stated p ts at spells (spelled_short p ts short spells) (passed_all k last p e))

  phrase : (ts : List Token) → tokens_of (uncommented bytes) ≡ Some ts → AreShort ts → (o : Option Phrase) → statement_of ts ≡ o → phrase_parsed k line last o ≡ Ok next → Judged k line bytes last next
  phrase ts at short None said is = absurd (cc is)
  phrase ts at short (Some p) said is = faultless ts at short p said (fault_of k last p) refl is

  empty : (c : Bool) → last && not (is_finished k) ≡ c → ◌≡◌ {A = Result Known Kind} (cond c (Err Unexpected) (Ok k)) (Ok next) → Judged k line bytes last next
  empty true ends is = absurd (cc is)
  empty false ends is = subst (Judged k line bytes last) (same_ok _ _ is) (Blank ends)

  tokens : (c : Bool) (ts : List Token) → tokens_of (uncommented bytes) ≡ Some ts → AreShort ts → ◌≡◌ {A = Result Known Kind} (cond c (cond (last && not (is_finished k)) (Err Unexpected) (Ok k)) (phrase_parsed k line last (statement_of ts))) (Ok next) → Judged k line bytes last next
  tokens true ts at short is = empty _ refl is
  tokens false ts at short is = phrase ts at short (statement_of ts) refl is

  spell : (o : Option (List Token)) → tokens_of (uncommented bytes) ≡ o → OnSome AreShort o → tokens_read k line last o ≡ Ok next → Judged k line bytes last next
  spell None at short is = absurd (cc is)
  spell (Some ts) at short is = tokens (eqb (length ts) 0) ts at short is

  go : (c : Bool) (o : Option (List Token)) → tokens_of (uncommented bytes) ≡ o → OnSome AreShort o → ◌≡◌ {A = Result Known Kind} (cond c (Err BadByte) (tokens_read k line last o)) (Ok next) → Judged k line bytes last next
  go true o at short is = absurd (cc is)
  go false o at short is = spell o at short is

-- ---- all lines

-- the last line of a text that says this
pub record LastLine (s : Said) : Type 0 where
  pub known : Known
  pub next : Known
  pub line : ℕ
  pub bytes : List ℕ
  pub reached : IsReached known
  pub judges : line_parsed known line bytes true ≡ Ok next
  pub says : said next ≡ s

run_last : (k : Known) (n : ℕ) (l : List ℕ) (ls : List (List ℕ)) (s : Said) → IsReached k → lines_parsed k n (l ∷ ls) ≡ Ok s → LastLine s
run_last k n l [] s r is = go (line_parsed k n l true) refl is where
  go : (j : Result Known Kind) → line_parsed k n l true ≡ j → ◌≡◌ {A = Result Said Fault} (elim j [ Err kind ↦ Err (fault n kind) | Ok next ↦ Ok (said next) ]) (Ok s) → LastLine s
  go (Err kind) e is = absurd (cc is)
  go (Ok next) e is = record { known = k; next = next; line = n; bytes = l; reached = r; judges = e; says = same_ok _ _ is }
run_last k n l (m ∷ ls) s r is = go (line_parsed k n (stripped l) false) refl is (λ next. run_last next (n + 1) m ls s) where
  go : (j : Result Known Kind) → line_parsed k n (stripped l) false ≡ j → ◌≡◌ {A = Result Said Fault} (elim j [ Err kind ↦ Err (fault n kind) | Ok next ↦ lines_parsed next (n + 1) (m ∷ ls) ]) (Ok s)
      → ((next : Known) → IsReached next → lines_parsed next (n + 1) (m ∷ ls) ≡ Ok s → LastLine s) → LastLine s
  go (Err kind) e is rest = absurd (cc is)
  go (Ok next) e is rest = rest next (Behind k next n (stripped l) false r e) is

-- a text has a line
some_line : (text : List ℕ) → (l : List ℕ) × (ls : List (List ℕ)) × (lines text ≡ l ∷ ls)
some_line [] = ([], [], refl)
some_line (b ∷ bs) = go (eqb b 10) (lines bs) where
  first : (ls : List (List ℕ)) → (l : List ℕ) × (ms : List (List ℕ)) × (to_first b ls ≡ l ∷ ms)
  first [] = (b ∷ [], [], refl)
  first (l ∷ ls) = (b ∷ l, ls, refl)

  go : (c : Bool) (ls : List (List ℕ)) → (l : List ℕ) × (ms : List (List ℕ)) × (cond c ([] ∷ ls) (to_first b ls) ≡ l ∷ ms)
  go true ls = ([], ls, refl)
  go false ls = first ls

pub last_line : (text : List ℕ) (s : Said) → lines_parsed nothing 1 (lines text) ≡ Ok s → LastLine s
last_line text s is =
    let some = some_line text in
    run_last nothing 1 some.0 some.1 s Before (sym (ap (lines_parsed nothing 1) some.2) ∙ is)
