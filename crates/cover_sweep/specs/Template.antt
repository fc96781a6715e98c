-- The demo template.
use Rattle.std.specs.Prelude.{ℕ, List, [], ◌∷◌, ◌++◌, codes}
use Rattle.std.specs.Fmt.{decimal}

-- lines, each ended by a line feed
abbrev pub ended : List (List ℕ) → List ℕ
ended [] = []
ended (l ∷ ls) = l ++ 10 ∷ ended ls

-- the lines before the one that says how often
abbrev pub first_lines : List (List ℕ)
first_lines =
    codes "ram 0x80000000 0x80020000"
    ∷ codes "pool 0x80000000 0x80001000 0x80010000"
    ∷ codes "hart 0 {"
    ∷ codes "start pc 0x80000000 priv m"
    ∷ codes "reg x31 = 0x80010800"
    ∷ codes "body {"
    ∷ []

-- the line that says how often
abbrev pub repeat_line : ℕ → List ℕ
repeat_line n = codes "repeat " ++ decimal n ++ codes " {"

-- what is repeated, and the ends of all blocks
abbrev pub last_lines : List (List ℕ)
last_lines =
    codes "choose {"
    ∷ codes "3: {"
    ∷ codes "do op in {add, sub, xor, or, and, sltu, sra, addi, slli}; rd in {0..30}"
    ∷ codes "}"
    ∷ codes "2: {"
    ∷ codes "do op in {lw, lhu, lb}; rs1 in {31}; rd in {0..30}"
    ∷ codes "}"
    ∷ codes "2: {"
    ∷ codes "do op in {sw, sh, sb}; rs1 in {31}"
    ∷ codes "}"
    ∷ codes "1: {"
    ∷ codes "do op in {mul, mulhu, div, remu}; rd in {0..30}"
    ∷ codes "}"
    ∷ codes "}"
    ∷ codes "}"
    ∷ codes "}"
    ∷ codes "}"
    ∷ []

-- the template that asks for so many steps
unfoldable pub demo_template : ℕ → List ℕ
demo_template n = ended (first_lines ++ repeat_line n ∷ last_lines)
