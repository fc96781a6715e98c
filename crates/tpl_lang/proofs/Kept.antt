-- The lengths that are kept of open blocks are those of the items whose lines stand in them.
use Rattle.std.proofs.Common.{◌≡◌, ℕ, ◌+◌, ◌-◌, ◌*◌, ◌^◌, ◌≤◌, zero, suc, max, Bool, false, ◌||◌, leb, ltb, List, [], ◌∷◌, ◌++◌, map, ◌⊎◌, inl, inr, refl, sym, ap, ◌∙◌, subst, arith}
use Rattle.std.specs.Prelude.{Vec}
use Rattle.std.specs.Global.{Global}
use Rattle.std.proofs.lemmas.Bool.{cases_Bool, leb-false, leb-true}
use Rattle.tpl_ast.specs.declared.template.HartDecl.{HartDecl}
use Rattle.tpl_ast.specs.declared.template.Item.{Item}
use Rattle.tpl_ast.specs.declared.template.Item.TheFolds.{fold-roll-Item, ind-Item, map-Item}
use Rattle.tpl_ast.specs.declared.template.Item.TheOpen.{Item-F}
use Rattle.tpl_ast.specs.declared.template.Item.TheOpen as layers
use Rattle.tpl_ast.specs.declared.template.Item.TheViews.{roll-Item}
use Rattle.tpl_ast.specs.Bodies.{BodyLine, Leaf, FetchFault, EnterSeq, EnterRepeat, EnterChoose, EnterWay, LabelOf, Leave, joined, lines_in, lines_of_body, lines_of_item, lines_of_ways, HartLines, hart_lines}
use Rattle.tpl_ast.specs.Lengths.{length_in, length_of_body, length_of_harts, length_of_item, longest_of, saturated, sum_of}
use Rattle.tpl_lang.specs.Known.{Alternative, Block, Choice, OpenedBlock, Sequence, Times, Whole}
use Rattle.tpl_lang.specs.Statements.{add_length, closing, opened_as}
use Rattle.tpl_ast.proofs.Proved.{Proved, items_back, items_of, proved}

-- ---- lines counted one after another, with the blocks that are open

abbrev pub left : List OpenedBlock → List OpenedBlock
left [] = []
left (o ∷ os) = closing o.block o.length os

abbrev pub counted : BodyLine → List OpenedBlock → List OpenedBlock
counted (Leaf line wishes) os = add_length 1 os
counted (FetchFault line causes) os = add_length 1 os
counted EnterSeq os = opened_as Sequence ∷ os
counted (EnterRepeat times) os = opened_as (Times times) ∷ os
counted (EnterChoose line) os = opened_as Choice ∷ os
counted (EnterWay weight) os = opened_as (Alternative weight) ∷ os
counted (LabelOf name) os = add_length 0 os
counted Leave os = left os

abbrev pub counted_all : List BodyLine → List OpenedBlock → List OpenedBlock
counted_all [] os = os
counted_all (l ∷ lines) os = counted_all lines (counted l os)

pub counted_both : (xs ys : List BodyLine) (os : List OpenedBlock) → counted_all (xs ++ ys) os ≡ counted_all ys (counted_all xs os)
counted_both [] ys os = refl
counted_both (x ∷ xs) ys os = counted_both xs ys (counted x os)

-- a body that nothing stands in yet
abbrev pub begun : List OpenedBlock
begun = opened_as Whole ∷ []

abbrev pub kept_length : List OpenedBlock → ℕ
kept_length [] = 0
kept_length (o ∷ os) = o.length

abbrev pub lines_length : List BodyLine → ℕ
lines_length lines = kept_length (counted_all lines begun)

abbrev pub lines_lengths : List HartLines → ℕ
lines_lengths [] = 0
lines_lengths (h ∷ hs) = lines_length h.body + lines_lengths hs

-- ---- lengths that end at 2 ^ 64 - 1

saturated_within : (n : ℕ) → saturated n ≤ 2 ^ 64 - 1
saturated_within n = omega arith

pub saturated_more : (a b c : ℕ) → saturated (saturated (a + b) + c) ≡ saturated (a + (b + c))
saturated_more a b c = omega arith

saturated_inner : (a n : ℕ) → saturated (a + saturated n) ≡ saturated (a + n)
saturated_inner a n = omega arith

split : (n : ℕ) → (n ≤ 2 ^ 64 - 1) ⊎ (2 ^ 64 - 1 ≤ n)
split n = elim (cases_Bool (leb n (2 ^ 64 - 1))) [
  | inl small ↦ inl (leb-true n (2 ^ 64 - 1) small)
  | inr large ↦ inr (omega (arith, leb-false n (2 ^ 64 - 1) large))
]

saturated_small : (n : ℕ) → n ≤ 2 ^ 64 - 1 → saturated n ≡ n
saturated_small n h = omega (arith, h)

saturated_large : (n : ℕ) → 2 ^ 64 - 1 ≤ n → saturated n ≡ 2 ^ 64 - 1
saturated_large n h = omega (arith, h)

times_above : (times n : ℕ) → 2 ^ 64 - 1 ≤ n → 2 ^ 64 - 1 ≤ suc times * n
times_above times n h = omega (arith, h)

times_saturated : (times n : ℕ) → saturated (times * max 1 (saturated n)) ≡ saturated (times * max 1 n)
times_saturated zero n = omega arith
times_saturated (suc times) n = elim (split n) [
  | inl h ↦ ap (λ (m : ℕ). saturated (suc times * max 1 m)) (saturated_small n h)
  | inr h ↦
      saturated_large (suc times * max 1 (saturated n)) (times_above times (max 1 (saturated n)) (omega (arith, h)))
      ∙ sym (saturated_large (suc times * max 1 n) (times_above times (max 1 n) (omega (arith, h))))
]

longest_saturated : (a n s l : ℕ) → saturated (a + (1 + max (max n (saturated s)) l)) ≡ saturated (a + (1 + max n (max s l)))
longest_saturated a n s l = elim (split s) [
  | inl h ↦ ap (λ (m : ℕ). saturated (a + m)) (omega (arith, saturated_small s h))
  | inr h ↦
      saturated_large _ (omega (arith, saturated_large s h))
      ∙ sym (saturated_large (a + (1 + max n (max s l))) (omega (arith, h)))
]

-- ---- and in an open block

abbrev pub made : Block → ℕ → OpenedBlock
made block n = record { block = block; length = n; ways = 0; weighted = false }

abbrev pub choice : ℕ → ℕ → Bool → OpenedBlock
choice n ways weighted = record { block = Choice; length = n; ways = ways; weighted = weighted }

add_saturated : (n : ℕ) (os : List OpenedBlock) → add_length (saturated n) os ≡ add_length n os
add_saturated n [] = refl
add_saturated n (o ∷ os) = ap (λ (m : ℕ). record { block = o.block; length = m; ways = o.ways; weighted = o.weighted } ∷ os) (saturated_inner o.length n)

add_longest : (n s l : ℕ) (os : List OpenedBlock) → add_length (1 + max (max n (saturated s)) l) os ≡ add_length (1 + max n (max s l)) os
add_longest n s l [] = refl
add_longest n s l (o ∷ os) = ap (λ (m : ℕ). record { block = o.block; length = m; ways = o.ways; weighted = o.weighted } ∷ os) (longest_saturated o.length n s l)

-- ---- the lines of an item add its length

abbrev pub IsCounted : Item → Type 0
IsCounted i = (os : List OpenedBlock) → counted_all (lines_of_item i) os ≡ add_length (length_of_item i) os

items_counted : (es : List (Proved IsCounted)) (block : Block) (n : ℕ) → n ≤ 2 ^ 64 - 1 → (os : List OpenedBlock)
    → counted_all (lines_of_body (items_of es)) (made block n ∷ os) ≡ made block (saturated (n + length_of_body (items_of es))) ∷ os
items_counted [] block n h os = ap (λ (m : ℕ). made block m ∷ os) (omega (arith, h))
items_counted (e ∷ es) block n h os =
    counted_both (lines_of_item e.0) (lines_of_body (items_of es)) (made block n ∷ os)
    ∙ ap (counted_all (lines_of_body (items_of es))) (e.1 (made block n ∷ os))
    ∙ items_counted es block (saturated (n + length_of_item e.0)) (saturated_within (n + length_of_item e.0)) os
    ∙ ap (λ (m : ℕ). made block m ∷ os) (saturated_more n (length_of_item e.0) (length_of_body (items_of es)))

from_nothing : (es : List (Proved IsCounted)) (block : Block) (os : List OpenedBlock) → counted_all (lines_of_body (items_of es)) (opened_as block ∷ os) ≡ made block (saturated (length_of_body (items_of es))) ∷ os
from_nothing es block os = items_counted es block 0 (omega arith) os ∙ ap (λ (m : ℕ). made block (saturated m) ∷ os) (omega arith)

-- a block with these items
block_counted : (es : List (Proved IsCounted)) (block : Block) (os : List OpenedBlock) → counted_all (lines_of_body (items_of es) ++ Leave ∷ []) (opened_as block ∷ os) ≡ closing block (saturated (length_of_body (items_of es))) os
block_counted es block os =
    counted_both (lines_of_body (items_of es)) (Leave ∷ []) (opened_as block ∷ os)
    ∙ ap left (from_nothing es block os)

seq_counted : (es : List (Proved IsCounted)) (os : List OpenedBlock) → counted_all (lines_of_body (items_of es) ++ Leave ∷ []) (opened_as Sequence ∷ os) ≡ add_length (length_of_body (items_of es)) os
seq_counted es os = block_counted es Sequence os ∙ add_saturated (length_of_body (items_of es)) os

repeat_counted : (times : ℕ) (es : List (Proved IsCounted)) (os : List OpenedBlock) → counted_all (lines_of_body (items_of es) ++ Leave ∷ []) (opened_as (Times times) ∷ os) ≡ add_length (times * max 1 (length_of_body (items_of es))) os
repeat_counted times es os =
    block_counted es (Times times) os
    ∙ ap (λ (m : ℕ). add_length m os) (times_saturated times (length_of_body (items_of es)))
    ∙ add_saturated (times * max 1 (length_of_body (items_of es))) os

-- alternatives, and the brace that closes their choice
ways_counted : (g : ℕ × Vec Item Global → ℕ × Vec (List BodyLine) Global) (k : ℕ × Vec Item Global → ℕ × Vec ℕ Global) (h : ℕ × Vec (Proved IsCounted) Global → ℕ × Vec Item Global)
    → ((v : ℕ × Vec Item Global) → (g v).1.items ≡ map lines_of_item v.1.items) → ((v : ℕ × Vec Item Global) → (k v).1.items ≡ map length_of_item v.1.items)
    → ((w : ℕ × Vec (Proved IsCounted) Global) → (h w).1.items ≡ items_of w.1.items)
    → (ws : List (ℕ × Vec (Proved IsCounted) Global)) (n ways : ℕ) (weighted : Bool) (os : List OpenedBlock)
    → left (counted_all (lines_of_ways (map g (map h ws))) (choice n ways weighted ∷ os)) ≡ add_length (1 + max n (longest_of (map k (map h ws)))) os
ways_counted g k h lines lengths items [] n ways weighted os =
    add_saturated (n + 1) os
    ∙ ap (λ (m : ℕ). add_length m os) (omega arith)
ways_counted g k h lines lengths items (w ∷ ws) n ways weighted os =
    let rest : List BodyLine = Leave ∷ lines_of_ways (map g (map h ws)) in
    let weight : ℕ = (g (h w)).0 in
    let size : ℕ = length_of_body (items_of w.1.items) in
    let longest : ℕ = longest_of (map k (map h ws)) in
    let stack : List OpenedBlock = opened_as (Alternative weight) ∷ choice n ways weighted ∷ os in
    let inner : (g (h w)).1.items ≡ map lines_of_item (items_of w.1.items) = lines (h w) ∙ ap (map lines_of_item) (items w) in
    let sizes : sum_of (k (h w)).1.items ≡ size = ap sum_of (lengths (h w) ∙ ap (map length_of_item) (items w)) in
    ap left (
    counted_both (joined (g (h w)).1.items) rest stack
    ∙ ap (λ (xs : List (List BodyLine)). counted_all rest (counted_all (joined xs) stack)) inner
    ∙ ap (counted_all rest) (from_nothing w.1.items (Alternative weight) (choice n ways weighted ∷ os)))
    ∙ ways_counted g k h lines lengths items ws (max n (saturated size)) (ways + 1) (weighted || ltb 0 weight) os
    ∙ add_longest n size longest os
    ∙ ap (λ (m : ℕ). add_length (1 + max n (max m longest)) os) (sym sizes)

choice_counted : (g : ℕ × Vec Item Global → ℕ × Vec (List BodyLine) Global) (k : ℕ × Vec Item Global → ℕ × Vec ℕ Global) (h : ℕ × Vec (Proved IsCounted) Global → ℕ × Vec Item Global)
    → ((v : ℕ × Vec Item Global) → (g v).1.items ≡ map lines_of_item v.1.items) → ((v : ℕ × Vec Item Global) → (k v).1.items ≡ map length_of_item v.1.items)
    → ((w : ℕ × Vec (Proved IsCounted) Global) → (h w).1.items ≡ items_of w.1.items)
    → (ws : List (ℕ × Vec (Proved IsCounted) Global)) (os : List OpenedBlock)
    → counted_all (lines_of_ways (map g (map h ws)) ++ Leave ∷ []) (opened_as Choice ∷ os) ≡ add_length (1 + longest_of (map k (map h ws))) os
choice_counted g k h lines lengths items ws os =
    counted_both (lines_of_ways (map g (map h ws))) (Leave ∷ []) (opened_as Choice ∷ os)
    ∙ ways_counted g k h lines lengths items ws 0 0 false os
    ∙ ap (λ (m : ℕ). add_length (1 + m) os) (omega arith)

counted_by : (z : Item-F Item) → ((os : List OpenedBlock) → counted_all (lines_in (map-Item _ _ lines_of_item z)) os ≡ add_length (length_in (map-Item _ _ length_of_item z)) os) → IsCounted (roll-Item z)
counted_by z same os =
    ap (λ (lines : List BodyLine). counted_all lines os) (fold-roll-Item (List BodyLine) lines_in z)
    ∙ same os
    ∙ sym (ap (λ (n : ℕ). add_length n os) (fold-roll-Item ℕ length_in z))

step : (x : Item-F Item) (y : Item-F (Proved IsCounted)) → map-Item _ _ (λ e. e.0) y ≡ x → IsCounted (roll-Item x)
step x (layers.Leaf line wishes) is = subst (λ (z : Item-F Item). IsCounted (roll-Item z)) is (counted_by (layers.Leaf line wishes) (λ os. refl))
step x (layers.FetchFault line causes) is = subst (λ (z : Item-F Item). IsCounted (roll-Item z)) is (counted_by (layers.FetchFault line causes) (λ os. refl))
step x (layers.Label name) is = subst (λ (z : Item-F Item). IsCounted (roll-Item z)) is (counted_by (layers.Label name) (λ os. refl))
step x (layers.Seq body) is = subst (λ (z : Item-F Item). IsCounted (roll-Item z)) is (counted_by _ (seq_counted body.items))
step x (layers.Repeat times body) is = subst (λ (z : Item-F Item). IsCounted (roll-Item z)) is (counted_by _ (repeat_counted times body.items))
step x (layers.Choose line ways) is = subst (λ (z : Item-F Item). IsCounted (roll-Item z)) is (counted_by _ (choice_counted _ _ _ (λ v. refl) (λ v. refl) (λ w. refl) ways.items))

pub counted_item : (i : Item) → IsCounted i
counted_item = ind-Item IsCounted step

-- ---- bodies

-- any items in an open block
pub body_in_block : (items : List Item) (block : Block) (os : List OpenedBlock) → counted_all (lines_of_body items) (opened_as block ∷ os) ≡ made block (saturated (length_of_body items)) ∷ os
body_in_block items block os = subst (λ (is : List Item). counted_all (lines_of_body is) (opened_as block ∷ os) ≡ made block (saturated (length_of_body is)) ∷ os) (items_back counted_item items) (from_nothing (proved counted_item items) block os)

pub body_counted : (items : List Item) → lines_length (lines_of_body items) ≡ saturated (length_of_body items)
body_counted items = subst (λ (is : List Item). lines_length (lines_of_body is) ≡ saturated (length_of_body is)) (items_back counted_item items) (ap kept_length (from_nothing (proved counted_item items) Whole []))

pub harts_counted : (hs : List HartDecl) → saturated (lines_lengths (map hart_lines hs)) ≡ saturated (length_of_harts hs)
harts_counted [] = refl
harts_counted (h ∷ hs) = omega (arith, body_counted h.body.items, harts_counted hs)

pub one_more_hart : (hs : List HartLines) (h : HartLines) → lines_lengths (hs ++ h ∷ []) ≡ lines_lengths hs + lines_length h.body
one_more_hart [] h = omega arith
one_more_hart (g ∷ hs) h = omega (arith, one_more_hart hs h)
