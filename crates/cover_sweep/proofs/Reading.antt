-- A text that is read line by line.
use Rattle.std.proofs.Common.{◌≡◌, ℕ, ◌+◌, Bool, true, false, not, ◌||◌, cond, List, [], ◌∷◌, ◌++◌, map, length, Option, Some, None, Result, Ok, Err, refl, sym, ap, ◌∙◌, inl, inr}
use Rattle.std.specs.Prelude.{◌==◌}
use Rattle.std.specs.List.{list_any}
use Rattle.std.proofs.lemmas.Bool.{cases_eq, ne_eqb}
use Rattle.tpl_lang.specs.declared.fault.Fault.{Fault as AFault}
use Rattle.tpl_lang.specs.declared.fault.Kind.{Kind}
use Rattle.tpl_lang.specs.declared.fault.Kind.TheVariants as kinds
use Rattle.tpl_lang.specs.Reading.{statement_of}
use Rattle.tpl_lang.specs.Faults.{is_name_twice, is_phrase_above, is_phrase_long, allows, is_bad_ram, is_bad_start, is_deep, is_double, is_empty, is_long, is_unknown, passes_count}
use Rattle.tpl_lang.specs.Kinds.{fault_of}
use Rattle.tpl_lang.specs.Laws.{StatementsAreSpelled}
use Rattle.tpl_lang.specs.Lines.{is_bad_byte, lines, stripped, to_first, uncommented}
use Rattle.tpl_lang.specs.Known.{Known}
use Rattle.tpl_lang.specs.Parsing.{Said, fault, line_parsed, phrase_parsed, lines_parsed, tokens_read, tokens_parsed}
use Rattle.tpl_lang.specs.Statements.{after}
use Rattle.tpl_lang.specs.Phrases.{Phrase}
use Rattle.tpl_lang.specs.Grammar.{Spells}
use Rattle.tpl_lang.specs.Tokens.{Token, tokens_of}
use Rattle.cover_sweep.specs.Template.{ended}

-- ---- one line

-- a line that says this
pub record IsLine (l : List ℕ) (p : Phrase) : Type 0 where
  pub tokens : List Token
  pub kept : stripped l ≡ l
  pub fine : list_any is_bad_byte l ≡ false
  pub read : tokens_of (uncommented l) ≡ Some tokens
  pub some : (length tokens == 0) ≡ false
  pub says : Spells p tokens

-- a statement has a fault of a kind
abbrev pub any_fault : Known → Phrase → Bool
any_fault k p =
    not (allows k p)
    || (is_phrase_above p
    || (is_unknown k p
    || (is_double k p
    || (is_name_twice p
    || (is_empty k p
    || (is_deep k p
    || (is_long k p
    || ((is_phrase_long p || passes_count k p)
    || (is_bad_ram k p
    || is_bad_start k p)))))))))

neither : (a b : Bool) → (a || b) ≡ false → (a ≡ false) × (b ≡ false)
neither true b is = absurd (cc is)
neither false b is = (refl, is)

no_fault : (k : Known) (p : Phrase) → any_fault k p ≡ false → fault_of k false p ≡ None
unfolding fault_of
no_fault k p none =
    let a = neither (not (allows k p)) _ none in
    let b = neither (is_phrase_above p) _ a.1 in
    let c = neither (is_unknown k p) _ b.1 in
    let d = neither (is_double k p) _ c.1 in
    let e = neither (is_name_twice p) _ d.1 in
    let f = neither (is_empty k p) _ e.1 in
    let g = neither (is_deep k p) _ f.1 in
    let h = neither (is_long k p) _ g.1 in
    let i = neither (is_phrase_long p || passes_count k p) _ h.1 in
    let j = neither (is_bad_ram k p) (is_bad_start k p) i.1 in
    rw (a.0, b.0, c.0, d.0, e.0, f.0, g.0, h.0, i.0, j.0, j.1) refl

abbrev settled : Known → Option Kind → Result Known Kind
settled next (Some kind) = Err kind
settled next None = Ok next

told_line : (k : Known) (n : ℕ) (l : List ℕ) (p : Phrase) (ts : List Token) → list_any is_bad_byte l ≡ false → tokens_of (uncommented l) ≡ Some ts → (length ts == 0) ≡ false → statement_of ts ≡ Some p → fault_of k false p ≡ None → line_parsed k n l false ≡ Ok (after k n p)
unfolding line_parsed tokens_parsed
told_line k n l p ts fine read some is none =
    ap (λ (x : Bool). cond x (Err kinds.BadByte) (tokens_read k n false (tokens_of (uncommented l)))) fine
    ∙ ap (tokens_read k n false) read
    ∙ ap (λ (x : Bool). cond x (Ok k) (phrase_parsed k n false (statement_of ts))) some
    ∙ ap (phrase_parsed k n false) is
    ∙ ap (settled (after k n p)) none

-- the lines behind one, where it has no fault
abbrev behind : ℕ → Result Known Kind → (Known → Result Said AFault) → Result Said AFault
behind n j rest = elim j [ Err kind ↦ Err (fault n kind) | Ok next ↦ rest next ]

run_next : (k next : Known) (n : ℕ) (l m : List ℕ) (ls : List (List ℕ)) → stripped l ≡ l → line_parsed k n l false ≡ Ok next → lines_parsed k n (l ∷ m ∷ ls) ≡ lines_parsed next (n + 1) (m ∷ ls)
run_next k next n l m ls kept is =
    let judges : line_parsed k n (stripped l) false ≡ Ok next = ap (λ (x : List ℕ). line_parsed k n x false) kept ∙ is in
    ap (λ (j : Result Known Kind). behind n j (λ following. lines_parsed following (n + 1) (m ∷ ls))) judges

-- ---- lines one after another

abbrev pub AreLines : List (List ℕ × Phrase) → Type 0
AreLines [] = Unit {0}
AreLines (e ∷ es) = IsLine e.0 e.1 × AreLines es

abbrev pub AreFaultless : Known → ℕ → List (List ℕ × Phrase) → Type 0
AreFaultless k n [] = Unit {0}
AreFaultless k n (e ∷ es) = (any_fault k e.1 ≡ false) × AreFaultless (after k n e.1) (n + 1) es

-- facts on one line after another
infixr 5 ◌&◌
abbrev pub ◌&◌ : {A B : Type 0} → A → B → A × B
a & b = (a, b)

-- what is known behind them, and the number of the next line
abbrev pub known_after : Known → ℕ → List (List ℕ × Phrase) → Known
known_after k n [] = k
known_after k n (e ∷ es) = known_after (after k n e.1) (n + 1) es

abbrev pub line_after : ℕ → List (List ℕ × Phrase) → ℕ
line_after n [] = n
line_after n (e ∷ es) = line_after (n + 1) es

abbrev pub bytes_of : List (List ℕ × Phrase) → List (List ℕ)
bytes_of es = map (λ e. e.0) es

one_read : (law : StatementsAreSpelled) (k : Known) (n : ℕ) (l m : List ℕ) (p : Phrase) (ls : List (List ℕ)) → IsLine l p → any_fault k p ≡ false → lines_parsed k n (l ∷ m ∷ ls) ≡ lines_parsed (after k n p) (n + 1) (m ∷ ls)
one_read law k n l m p ls is none =
    run_next k (after k n p) n l m ls is.kept (told_line k n l p is.tokens is.fine is.read is.some ((law is.tokens p).1 is.says) (no_fault k p none))

pub all_read : (law : StatementsAreSpelled) (k : Known) (n : ℕ) (es : List (List ℕ × Phrase)) → AreLines es → AreFaultless k n es → lines_parsed k n (bytes_of es ++ [] ∷ []) ≡ lines_parsed (known_after k n es) (line_after n es) ([] ∷ [])
all_read law k n [] are none = refl
all_read law k n (e ∷ []) are none = one_read law k n e.0 [] e.1 [] are.0 none.0
all_read law k n (e ∷ f ∷ es) are none = one_read law k n e.0 f.0 e.1 (bytes_of es ++ [] ∷ []) are.0 none.0 ∙ all_read law (after k n e.1) (n + 1) (f ∷ es) are.1 none.1

-- ---- the lines of a text

unbroken : (b : ℕ) → is_bad_byte b ≡ false → (b == 10) ≡ false
unbroken b fine = elim (cases_eq b 10) [
  | inl is ↦ absurd (cc (sym fine ∙ ap is_bad_byte is))
  | inr other ↦ ne_eqb b 10 other
]

line_first : (l rest : List ℕ) → list_any is_bad_byte l ≡ false → lines (l ++ 10 ∷ rest) ≡ l ∷ lines rest
line_first [] rest fine = refl
line_first (b ∷ bs) rest fine =
    let both = neither (is_bad_byte b) (list_any is_bad_byte bs) fine in
    ap (λ (x : Bool). cond x ([] ∷ lines (bs ++ 10 ∷ rest)) (to_first b (lines (bs ++ 10 ∷ rest)))) (unbroken b both.0) ∙ ap (to_first b) (line_first bs rest both.1)

pub lines_ended : (es : List (List ℕ × Phrase)) → AreLines es → lines (ended (bytes_of es)) ≡ bytes_of es ++ [] ∷ []
lines_ended [] are = refl
lines_ended (e ∷ es) are = line_first e.0 (ended (bytes_of es)) are.0.fine ∙ ap (λ (ls : List (List ℕ)). e.0 ∷ ls) (lines_ended es are.1)
