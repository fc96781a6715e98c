-- The lines of the demo template, and what each says.
use Rattle.std.proofs.Common.{◌≡◌, ℕ, ◌+◌, ◌*◌, ◌%◌, ◌^◌, ◌<◌, ◌≤◌, Bool, true, false, ◌&&◌, ◌||◌, List, [], ◌∷◌, ◌++◌, length, Some, None, Ok, length-append, refl, ap, ◌∙◌, codes, arith}
use Rattle.std.specs.Prelude.{◌==◌, Contains, nat_lt}
use Rattle.std.specs.Fmt.{decimal}
use Rattle.std.proofs.lemmas.Bool.{le-ltb, ne_eqb}
use Rattle.std.proofs.lemmas.Fmt.{length-decimal-le}
use Rattle.dom_set.specs.Elements.{elements_of, is_within}
use Rattle.dom_set.specs.Laws.{ElementsPass}
use Rattle.rv_csr.specs.declared.privilege.Priv.TheVariants.{M}
use Rattle.rv_isa.specs.Numbers.{op_number}
use Rattle.tpl_lang.specs.declared.mark.Mark.TheVariants as marks
use Rattle.tpl_lang.specs.declared.phrase.Element.TheVariants as elements
use Rattle.tpl_ast.specs.declared.template.Var.{Var}
use Rattle.tpl_ast.specs.declared.template.Var.TheVariants as vars
use Rattle.tpl_lang.specs.declared.words.Key.TheVariants as keys
use Rattle.tpl_lang.specs.Laws.{StatementsAreSpelled}
use Rattle.tpl_ast.specs.Lengths.{saturated}
use Rattle.tpl_lang.specs.Lines.{lines}
use Rattle.tpl_lang.specs.Faults.{is_none_of}
use Rattle.tpl_lang.specs.Parsing.{parses, line_parsed, lines_parsed, tokens_parsed}
use Rattle.tpl_lang.specs.Known.{nothing}
use Rattle.tpl_lang.specs.Phrases.{Listed, Domain, Numbers, Words, Among, WishPhrase, Phrase, Ram, Pool, Hart, Start, Reg, Body, Do, Repeat, Choose, Way, Close}
use Rattle.tpl_lang.specs.Sets.{listed}
use Rattle.tpl_lang.specs.Grammar.{key, wishes}
use Rattle.tpl_lang.specs.Tokens.{Word, Number, Sign, is_word, mark_of, number_of, token_of, tokens_of}
use Rattle.tpl_lang.specs.Words.{op_of}
use Rattle.cover_sweep.specs.Said.{demo_said}
use Rattle.cover_sweep.specs.Template.{demo_template, repeat_line}
use Rattle.cover_sweep.proofs.Numerals.{plain, repeat_fine, repeat_kept, repeat_read, repeat_tokens}
use Rattle.cover_sweep.proofs.Written.{template_written}
use Rattle.cover_sweep.proofs.Reading.{◌&◌, AreFaultless, AreLines, IsLine, all_read, bytes_of, known_after, line_after, lines_ended}

-- ---- what the lines say

abbrev wish : Var → Domain → WishPhrase
wish v d = record { prefer = false; atom = Among v d }

abbrev rd_wish : WishPhrase
rd_wish = wish vars.Rd (Numbers (Listed (elements.Range (plain 0) (plain 30) ∷ []) None))

abbrev rs1_wish : WishPhrase
rs1_wish = wish vars.Rs1 (Numbers (Listed (elements.One (plain 31) ∷ []) None))

abbrev first_wishes : List WishPhrase
first_wishes =
    wish vars.Op (Words (codes "add" ∷ codes "sub" ∷ codes "xor" ∷ codes "or" ∷ codes "and" ∷ codes "sltu" ∷ codes "sra" ∷ codes "addi" ∷ codes "slli" ∷ []))
    ∷ rd_wish ∷ []

abbrev second_wishes : List WishPhrase
second_wishes = wish vars.Op (Words (codes "lw" ∷ codes "lhu" ∷ codes "lb" ∷ [])) ∷ rs1_wish ∷ rd_wish ∷ []

abbrev third_wishes : List WishPhrase
third_wishes = wish vars.Op (Words (codes "sw" ∷ codes "sh" ∷ codes "sb" ∷ [])) ∷ rs1_wish ∷ []

abbrev fourth_wishes : List WishPhrase
fourth_wishes = wish vars.Op (Words (codes "mul" ∷ codes "mulhu" ∷ codes "div" ∷ codes "remu" ∷ [])) ∷ rd_wish ∷ []

abbrev first_said : List (List ℕ × Phrase)
first_said =
    (codes "ram 0x80000000 0x80020000", Ram (plain 0x80000000) (plain 0x80020000))
    ∷ (codes "pool 0x80000000 0x80001000 0x80010000", Pool (plain 0x80000000 ∷ plain 0x80001000 ∷ plain 0x80010000 ∷ []))
    ∷ (codes "hart 0 {", Hart (plain 0))
    ∷ (codes "start pc 0x80000000 priv m", Start (plain 0x80000000) M)
    ∷ (codes "reg x31 = 0x80010800", Reg (Some 31) (plain 0x80010800))
    ∷ (codes "body {", Body)
    ∷ []

abbrev last_said : List (List ℕ × Phrase)
last_said =
    (codes "choose {", Choose)
    ∷ (codes "3: {", Way (plain 3))
    ∷ (codes "do op in {add, sub, xor, or, and, sltu, sra, addi, slli}; rd in {0..30}", Do first_wishes)
    ∷ (codes "}", Close)
    ∷ (codes "2: {", Way (plain 2))
    ∷ (codes "do op in {lw, lhu, lb}; rs1 in {31}; rd in {0..30}", Do second_wishes)
    ∷ (codes "}", Close)
    ∷ (codes "2: {", Way (plain 2))
    ∷ (codes "do op in {sw, sh, sb}; rs1 in {31}", Do third_wishes)
    ∷ (codes "}", Close)
    ∷ (codes "1: {", Way (plain 1))
    ∷ (codes "do op in {mul, mulhu, div, remu}; rd in {0..30}", Do fourth_wishes)
    ∷ (codes "}", Close)
    ∷ (codes "}", Close)
    ∷ (codes "}", Close)
    ∷ (codes "}", Close)
    ∷ (codes "}", Close)
    ∷ []

abbrev lines_said : ℕ → List (List ℕ × Phrase)
lines_said n = first_said ++ (repeat_line n, Repeat (plain n)) ∷ last_said

-- ---- each line says it

ram_line : IsLine (codes "ram 0x80000000 0x80020000") (Ram (plain 0x80000000) (plain 0x80020000))
unfolding tokens_of token_of is_word mark_of number_of
ram_line = record { tokens = key keys.Ram ∷ Number (plain 0x80000000) ∷ Number (plain 0x80020000) ∷ []; kept = refl; fine = refl; read = refl; some = refl; says = refl }

pool_line : IsLine (codes "pool 0x80000000 0x80001000 0x80010000") (Pool (plain 0x80000000 ∷ plain 0x80001000 ∷ plain 0x80010000 ∷ []))
unfolding tokens_of token_of is_word mark_of number_of
pool_line = record { tokens = key keys.Pool ∷ Number (plain 0x80000000) ∷ Number (plain 0x80001000) ∷ Number (plain 0x80010000) ∷ []; kept = refl; fine = refl; read = refl; some = refl; says = (tt, refl) }

hart_line : IsLine (codes "hart 0 {") (Hart (plain 0))
unfolding tokens_of token_of is_word mark_of number_of
hart_line = record { tokens = key keys.Hart ∷ Number (plain 0) ∷ Sign marks.Open ∷ []; kept = refl; fine = refl; read = refl; some = refl; says = refl }

start_line : IsLine (codes "start pc 0x80000000 priv m") (Start (plain 0x80000000) M)
unfolding tokens_of token_of is_word mark_of number_of
start_line = record { tokens = key keys.Start ∷ key keys.Pc ∷ Number (plain 0x80000000) ∷ key keys.Priv ∷ key keys.Machine ∷ []; kept = refl; fine = refl; read = refl; some = refl; says = refl }

reg_line : IsLine (codes "reg x31 = 0x80010800") (Reg (Some 31) (plain 0x80010800))
unfolding tokens_of token_of is_word mark_of number_of
reg_line = record { tokens = key keys.Reg ∷ Word (codes "x31") ∷ Sign marks.Is ∷ Number (plain 0x80010800) ∷ []; kept = refl; fine = refl; read = refl; some = refl; says = (codes "x31", refl, refl) }

body_line : IsLine (codes "body {") Body
unfolding tokens_of token_of is_word mark_of number_of
body_line = record { tokens = key keys.Body ∷ Sign marks.Open ∷ []; kept = refl; fine = refl; read = refl; some = refl; says = refl }

times_line : (n : ℕ) → n ≤ 2000 → IsLine (repeat_line n) (Repeat (plain n))
times_line n small = record { tokens = repeat_tokens n; kept = repeat_kept n; fine = repeat_fine n small; read = repeat_read n small; some = refl; says = refl }

choose_line : IsLine (codes "choose {") Choose
unfolding tokens_of token_of is_word mark_of number_of
choose_line = record { tokens = key keys.Choose ∷ Sign marks.Open ∷ []; kept = refl; fine = refl; read = refl; some = refl; says = refl }

three_line : IsLine (codes "3: {") (Way (plain 3))
unfolding tokens_of token_of is_word mark_of number_of
three_line = record { tokens = Number (plain 3) ∷ Sign marks.Colon ∷ Sign marks.Open ∷ []; kept = refl; fine = refl; read = refl; some = refl; says = refl }

two_line : IsLine (codes "2: {") (Way (plain 2))
unfolding tokens_of token_of is_word mark_of number_of
two_line = record { tokens = Number (plain 2) ∷ Sign marks.Colon ∷ Sign marks.Open ∷ []; kept = refl; fine = refl; read = refl; some = refl; says = refl }

one_line : IsLine (codes "1: {") (Way (plain 1))
unfolding tokens_of token_of is_word mark_of number_of
one_line = record { tokens = Number (plain 1) ∷ Sign marks.Colon ∷ Sign marks.Open ∷ []; kept = refl; fine = refl; read = refl; some = refl; says = refl }

close_line : IsLine (codes "}") Close
unfolding tokens_of token_of is_word mark_of number_of
close_line = record { tokens = Sign marks.Close ∷ []; kept = refl; fine = refl; read = refl; some = refl; says = refl }

first_line : IsLine (codes "do op in {add, sub, xor, or, and, sltu, sra, addi, slli}; rd in {0..30}") (Do first_wishes)
unfolding tokens_of token_of is_word mark_of number_of
first_line = record { tokens = key keys.Do ∷ wishes first_wishes; kept = refl; fine = refl; read = refl; some = refl; says = ((tt, (tt, tt)), refl) }

second_line : IsLine (codes "do op in {lw, lhu, lb}; rs1 in {31}; rd in {0..30}") (Do second_wishes)
unfolding tokens_of token_of is_word mark_of number_of
second_line = record { tokens = key keys.Do ∷ wishes second_wishes; kept = refl; fine = refl; read = refl; some = refl; says = ((tt, (tt, (tt, tt))), refl) }

third_line : IsLine (codes "do op in {sw, sh, sb}; rs1 in {31}") (Do third_wishes)
unfolding tokens_of token_of is_word mark_of number_of
third_line = record { tokens = key keys.Do ∷ wishes third_wishes; kept = refl; fine = refl; read = refl; some = refl; says = ((tt, (tt, tt)), refl) }

fourth_line : IsLine (codes "do op in {mul, mulhu, div, remu}; rd in {0..30}") (Do fourth_wishes)
unfolding tokens_of token_of is_word mark_of number_of
fourth_line = record { tokens = key keys.Do ∷ wishes fourth_wishes; kept = refl; fine = refl; read = refl; some = refl; says = ((tt, (tt, tt)), refl) }

are_lines : (n : ℕ) → n ≤ 2000 → AreLines (lines_said n)
are_lines n small =
    ram_line & pool_line & hart_line & start_line & reg_line & body_line & times_line n small
    & choose_line & three_line & first_line & close_line
    & two_line & second_line & close_line
    & two_line & third_line & close_line
    & one_line & fourth_line & close_line
    & close_line & close_line & close_line & close_line & tt

-- ---- no line has a fault

some_listed : ElementsPass → (ranges : List (ℕ × ℕ)) (x : ℕ) → x < 2 ^ 32 → (x % 1 == 0) ≡ true → is_within ranges x ≡ true → is_none_of (listed ranges 1) ≡ false
some_listed law ranges x word whole within =
    let test : ℕ → Bool = λ y. y % 1 == 0 && is_within ranges y in
    let passes : test x ≡ true = ap (λ (b : Bool). b && is_within ranges x) whole ∙ within in
    let there : Contains (elements_of test) x = (law test x).1 (word, passes) in
    let some : length (elements_of test) ≡ 0 → ⊥ = λ none. omega (arith, there.1, none) in
    ne_eqb (length (elements_of test)) 0 some

rd_some : ElementsPass → is_none_of (listed ((0, 30) ∷ []) 1) ≡ false
rd_some law = some_listed law ((0, 30) ∷ []) 0 (omega arith) refl refl

rs1_some : ElementsPass → is_none_of (listed ((31, 31) ∷ []) 1) ≡ false
rs1_some law = some_listed law ((31, 31) ∷ []) 31 (omega arith) refl refl

times_fit : (n : ℕ) → n ≤ 2000 → nat_lt 8192 n ≡ false
times_fit n small = le-ltb 8192 n (omega (arith, small))

length_fits : (n : ℕ) → n ≤ 2000 → nat_lt 8192 (0 + saturated (0 + saturated (n * 2))) ≡ false
length_fits n small = le-ltb 8192 (0 + saturated (0 + saturated (n * 2))) (omega (arith, small))

abbrev is_rd_empty : Bool
is_rd_empty = is_none_of (listed ((0, 30) ∷ []) 1)

abbrev is_rs1_empty : Bool
is_rs1_empty = is_none_of (listed ((31, 31) ∷ []) 1)

no_faults : ElementsPass → (n : ℕ) → n ≤ 2000 → AreFaultless nothing 1 (lines_said n)
unfolding op_of
no_faults law n small =
    let none : false ≡ false = refl in
    let times : (nat_lt 8192 n || false) ≡ false = ap (λ (b : Bool). b || false) (times_fit n small) in
    let rd : is_rd_empty ≡ false = rd_some law in
    let rs1 : is_rs1_empty ≡ false = rs1_some law in
    let with_rd : ((is_rd_empty || false) || false) ≡ false = ap (λ (b : Bool). (b || false) || false) rd in
    let with_both : ((is_rs1_empty || (is_rd_empty || false)) || false) ≡ false = ap (λ (b : Bool). (b || (is_rd_empty || false)) || false) rs1 ∙ with_rd in
    let with_rs1 : ((is_rs1_empty || false) || false) ≡ false = ap (λ (b : Bool). (b || false) || false) rs1 in
    let all : (nat_lt 8192 (0 + saturated (0 + saturated (n * 2))) || false) ≡ false = ap (λ (b : Bool). b || false) (length_fits n small) in
    none & none & none & none & none & none & times
    & none & none & with_rd & none
    & none & with_both & none
    & none & with_rs1 & none
    & none & with_rd & none
    & none & none & all & none & tt

-- ---- the whole text

last_read : (n : ℕ) → lines_parsed (known_after nothing 1 (lines_said n)) (line_after 1 (lines_said n)) ([] ∷ []) ≡ Ok (demo_said n)
unfolding line_parsed tokens_parsed tokens_of op_number
last_read n = refl

demo_short : (n : ℕ) → n ≤ 2000 → length (demo_template n) ≤ 65536
demo_short n small =
    let digits : length (decimal n) ≤ 20 = length-decimal-le 20 n (omega arith) (omega (arith, small)) (omega (arith, small)) in
    rw (template_written n) (simp length-append (omega (arith, digits)))

parses_by : (text : List ℕ) → length text ≤ 65536 → parses text ≡ lines_parsed nothing 1 (lines text)
unfolding parses
parses_by text short = rw (le-ltb 65536 (length text) short) refl

demo_lines : (n : ℕ) → n ≤ 2000 → lines (demo_template n) ≡ bytes_of (lines_said n) ++ [] ∷ []
unfolding demo_template
demo_lines n small = lines_ended (lines_said n) (are_lines n small)

pub demo_read : ElementsPass → StatementsAreSpelled → (n : ℕ) → n ≤ 2000 → parses (demo_template n) ≡ Ok (demo_said n)
demo_read elements statements n small =
    parses_by (demo_template n) (demo_short n small)
    ∙ ap (lines_parsed nothing 1) (demo_lines n small)
    ∙ all_read statements nothing 1 (lines_said n) (are_lines n small) (no_faults elements n small)
    ∙ last_read n
