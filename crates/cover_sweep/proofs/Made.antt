-- A template that the demo template says.
use Rattle.std.proofs.Common.{◌≡◌, ℕ, ◌^◌, ◌<◌, ◌≤◌, List, [], ◌∷◌, ◌++◌, map, length, None, Ok, refl, sym, ap, ◌∙◌, lit<, arith}
use Rattle.std.specs.Prelude.{Vec}
use Rattle.std.specs.Global.{Global}
use denote.RawPtr.{null_ptr}
use Rattle.dom_set.specs.Laws.{ElementsPass}
use Rattle.rv_isa.specs.declared.operation.Op.TheVariants as ops
use Rattle.tpl_ast.specs.declared.template.Item.{Item}
use Rattle.tpl_ast.specs.declared.template.Item.TheFolds.{fold-roll-Item}
use Rattle.tpl_ast.specs.declared.template.Item.TheOpen as layers
use Rattle.tpl_ast.specs.declared.template.Item.TheVariants as variants
use Rattle.tpl_ast.specs.declared.template.Item.TheViews as views
use Rattle.tpl_ast.specs.declared.template.Template.{Template}
use Rattle.tpl_ast.specs.declared.template.Wish.{Wish}
use Rattle.tpl_ast.specs.Bodies.{BodyLine, Leaf, EnterRepeat, EnterChoose, EnterWay, Leave, lines_in, lines_of_body, lines_of_item, lines_of_ways}
use Rattle.tpl_lang.specs.Laws.{StatementsAreSpelled}
use Rattle.tpl_lang.specs.Parsing.{Parses, Said, said_by, vectors_of}
use Rattle.cover_sweep.specs.Said.{demo_hart, demo_pool, demo_said, is_by_x31, is_one_of, keeps_x31}
use Rattle.cover_sweep.specs.Template.{demo_template}
use Rattle.cover_sweep.proofs.Demo.{demo_read}

-- ---- the lines of items

leaf_lines : (line : ℕ) (wishes : Vec Wish Global) → lines_of_item (variants.Leaf line wishes) ≡ Leaf line wishes.items ∷ []
leaf_lines line wishes = ap lines_of_item (sym (variants.rolls-Leaf line wishes)) ∙ fold-roll-Item (List BodyLine) lines_in (layers.Leaf line wishes)

repeat_lines : (times : ℕ) (body : Vec Item Global) → lines_of_item (views.Repeat times body) ≡ EnterRepeat times ∷ lines_of_body body.items ++ Leave ∷ []
repeat_lines times body = ap lines_of_item (sym (variants.rolls-Repeat times body)) ∙ fold-roll-Item (List BodyLine) lines_in (layers.Repeat times body)

abbrev lines_of_all : List (ℕ × Vec Item Global) → List BodyLine
lines_of_all [] = []
lines_of_all (w ∷ ws) = EnterWay w.0 ∷ lines_of_body w.1.items ++ Leave ∷ lines_of_all ws

ways_are : (g : ℕ × Vec Item Global → ℕ × Vec (List BodyLine) Global) → ((w : ℕ × Vec Item Global) → (g w).0 ≡ w.0) → ((w : ℕ × Vec Item Global) → (g w).1.items ≡ map lines_of_item w.1.items)
    → (ws : List (ℕ × Vec Item Global)) → lines_of_ways (map g ws) ≡ lines_of_all ws
ways_are g weight inner [] = refl
ways_are g weight inner (w ∷ ws) = rw (weight w, inner w, ways_are g weight inner ws) refl

choose_lines : (line : ℕ) (ways : Vec (ℕ × Vec Item Global) Global) → lines_of_item (views.Choose line ways) ≡ EnterChoose line ∷ lines_of_all ways.items ++ Leave ∷ []
choose_lines line ways =
    ap lines_of_item (sym (variants.rolls-Choose line ways))
    ∙ fold-roll-Item (List BodyLine) lines_in (layers.Choose line ways)
    ∙ ap (λ (ls : List BodyLine). EnterChoose line ∷ ls ++ Leave ∷ []) (ways_are _ (λ w. refl) (λ w. refl) ways.items)

-- ---- the template

-- a list as a `Vec`, wherever it may lie
abbrev vec_of : {X : Type 0} (xs : List X) → length xs < 2 ^ 63 → Vec X Global
vec_of xs small = record { ptr = null_ptr; len = length xs; cap = length xs; alloc = record { memory = record { seal = tt } }; items = xs; ok = (refl, omega arith); small = small }

abbrev first_leaf : List Wish
first_leaf = is_one_of (ops.Add ∷ ops.Sub ∷ ops.Xor ∷ ops.Or ∷ ops.And ∷ ops.Sltu ∷ ops.Sra ∷ ops.Addi ∷ ops.Slli ∷ []) ∷ keeps_x31 ∷ []

abbrev second_leaf : List Wish
second_leaf = is_one_of (ops.Lw ∷ ops.Lhu ∷ ops.Lb ∷ []) ∷ is_by_x31 ∷ keeps_x31 ∷ []

abbrev third_leaf : List Wish
third_leaf = is_one_of (ops.Sw ∷ ops.Sh ∷ ops.Sb ∷ []) ∷ is_by_x31 ∷ []

abbrev fourth_leaf : List Wish
fourth_leaf = is_one_of (ops.Mul ∷ ops.Mulhu ∷ ops.Div ∷ ops.Remu ∷ []) ∷ keeps_x31 ∷ []

abbrev leaf_of : ℕ → (ws : List Wish) → length ws < 2 ^ 63 → Vec Item Global
leaf_of line ws small = vec_of (variants.Leaf line (vec_of ws small) ∷ []) (lit< tt)

leaf_told : (line : ℕ) (ws : List Wish) (small : length ws < 2 ^ 63) → lines_of_body (leaf_of line ws small).items ≡ Leaf line ws ∷ []
leaf_told line ws small = ap (λ (ls : List BodyLine). ls ++ []) (leaf_lines line (vec_of ws small))

abbrev ways_of : Vec (ℕ × Vec Item Global) Global
ways_of = vec_of ((3, leaf_of 10 first_leaf (lit< tt)) ∷ (2, leaf_of 13 second_leaf (lit< tt)) ∷ (2, leaf_of 16 third_leaf (lit< tt)) ∷ (1, leaf_of 19 fourth_leaf (lit< tt)) ∷ []) (lit< tt)

abbrev choose_of : Vec Item Global
choose_of = vec_of (views.Choose 8 ways_of ∷ []) (lit< tt)

abbrev body_of : ℕ → Vec Item Global
body_of n = vec_of (views.Repeat n choose_of ∷ []) (lit< tt)

abbrev template_of : ℕ → Template
template_of n = record {
  text = demo_template n;
  ram = record { low = 0x80000000; high = 0x80020000 } ∷ [];
  pool = demo_pool;
  tables = [];
  flags = [];
  vectors = vectors_of None demo_pool;
  words = [];
  names = [];
  harts = record { start = (demo_hart n).start; body = body_of n } ∷ [];
}

-- ---- it is what the text says

abbrev ways_with : List BodyLine → List BodyLine → List BodyLine → List BodyLine → List BodyLine
ways_with a b c d = EnterWay 3 ∷ a ++ Leave ∷ (EnterWay 2 ∷ b ++ Leave ∷ (EnterWay 2 ∷ c ++ Leave ∷ (EnterWay 1 ∷ d ++ Leave ∷ [])))

ways_told : lines_of_all ways_of.items ≡ ways_with (Leaf 10 first_leaf ∷ []) (Leaf 13 second_leaf ∷ []) (Leaf 16 third_leaf ∷ []) (Leaf 19 fourth_leaf ∷ [])
ways_told =
    let b = lines_of_body (leaf_of 13 second_leaf (lit< tt)).items in
    let c = lines_of_body (leaf_of 16 third_leaf (lit< tt)).items in
    let d = lines_of_body (leaf_of 19 fourth_leaf (lit< tt)).items in
    let one : List BodyLine = Leaf 10 first_leaf ∷ [] in
    let two : List BodyLine = Leaf 13 second_leaf ∷ [] in
    let three : List BodyLine = Leaf 16 third_leaf ∷ [] in
    ap (λ (x : List BodyLine). ways_with x b c d) (leaf_told 10 first_leaf (lit< tt))
    ∙ ap (λ (x : List BodyLine). ways_with one x c d) (leaf_told 13 second_leaf (lit< tt))
    ∙ ap (λ (x : List BodyLine). ways_with one two x d) (leaf_told 16 third_leaf (lit< tt))
    ∙ ap (λ (x : List BodyLine). ways_with one two three x) (leaf_told 19 fourth_leaf (lit< tt))

body_told : (n : ℕ) → lines_of_body (body_of n).items ≡ (demo_hart n).body
body_told n =
    ap (λ (ls : List BodyLine). ls ++ []) (repeat_lines n choose_of)
    ∙ ap (λ (ls : List BodyLine). (EnterRepeat n ∷ (ls ++ []) ++ Leave ∷ []) ++ []) (choose_lines 8 ways_of)
    ∙ ap (λ (ls : List BodyLine). (EnterRepeat n ∷ ((EnterChoose 8 ∷ ls ++ Leave ∷ []) ++ []) ++ Leave ∷ []) ++ []) ways_told

abbrev said_with : ℕ → List BodyLine → Said
said_with n ls = record (demo_said n) { harts = record { start = (demo_hart n).start; body = ls } ∷ [] }

said_same : (n : ℕ) → said_by (template_of n) ≡ demo_said n
said_same n = ap (said_with n) (body_told n)

pub demo_template_is : ElementsPass → StatementsAreSpelled → (n : ℕ) → n ≤ 2000 → (t : Template) × Parses (demo_template n) t
demo_template_is elements statements n small = (template_of n, record { text = refl; says = demo_read elements statements n small ∙ ap Ok (sym (said_same n)) })
