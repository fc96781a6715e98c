-- The lines of a body that grows.
use Rattle.std.proofs.Common.{◌≡◌, ℕ, ◌+◌, Bool, true, false, ◌&&◌, ◌||◌, nat_lt, List, [], ◌∷◌, ◌++◌, map, length, refl, sym, ap, ◌∙◌, append_assoc, arith}
use Rattle.std.specs.Prelude.{Vec}
use Rattle.std.specs.Global.{Global}
use Rattle.std.specs.List.{list_any}
use Rattle.std.proofs.Math.Bool.{or-false, or_assoc}
use Rattle.std.proofs.lemmas.Bool.{and_parts}
use Rattle.std.proofs.lemmas.List.{append-nil}
use Rattle.tpl_ast.specs.declared.template.Item.{Item}
use Rattle.tpl_ast.specs.declared.template.Item.TheOpen.{Item-F}
use Rattle.tpl_ast.specs.declared.template.Item.TheViews as views
use Rattle.tpl_ast.specs.declared.template.Item.TheOpen as layers
use Rattle.tpl_ast.specs.declared.template.Item.TheVariants as variants
use Rattle.tpl_ast.specs.declared.template.Item.TheFolds.{fold-roll-Item}
use Rattle.tpl_ast.specs.declared.template.Wish.{Wish}
use Rattle.tpl_ast.specs.Bodies.{BodyLine, Leaf, FetchFault, EnterSeq, EnterRepeat, EnterChoose, EnterWay, LabelOf, Leave, lines_in, lines_of_body, lines_of_item, lines_of_ways}
use Rattle.tpl_lang.specs.Known as language
use Rattle.tpl_lang.specs.Known.{OpenedBlock, Whole}
use Rattle.tpl_lang.specs.Faults.{is_repeat}
use Rattle.tpl_state.specs.declared.body.Block.TheVariants as blocks
use Rattle.tpl_state.specs.declared.body.OpenBlock.{OpenBlock}
use Rattle.tpl_state.specs.Internal.Growing.{fits_in, is_nested, kind_of, lines_of_alternatives, lines_of_block, lines_of_open, open_of, stacked}

pub body_push : (xs : List Item) (i : Item) → lines_of_body (xs ++ i ∷ []) ≡ lines_of_body xs ++ lines_of_item i
body_push [] i = append-nil (lines_of_item i)
body_push (x ∷ xs) i = ap (λ (s : List BodyLine). lines_of_item x ++ s) (body_push xs i) ∙ sym (append_assoc (lines_of_item x) (lines_of_body xs) (lines_of_item i))

pub alternatives_push : (ws : List (ℕ × Vec Item Global)) (w : ℕ × Vec Item Global) → lines_of_alternatives (ws ++ w ∷ []) ≡ lines_of_alternatives ws ++ (EnterWay w.0 ∷ lines_of_body w.1.items ++ Leave ∷ [])
alternatives_push [] w = refl
alternatives_push (x ∷ ws) w = ap (λ (s : List BodyLine). EnterWay x.0 ∷ lines_of_body x.1.items ++ Leave ∷ s) (alternatives_push ws w) ∙ sym (append_assoc (EnterWay x.0 ∷ lines_of_body x.1.items) (Leave ∷ lines_of_alternatives ws) _)

pub open_push : (bs : List OpenBlock) (b : OpenBlock) → lines_of_open (bs ++ b ∷ []) ≡ lines_of_open bs ++ lines_of_block b.block
open_push [] b = append-nil (lines_of_block b.block)
open_push (x ∷ bs) b = ap (λ (s : List BodyLine). lines_of_block x.block ++ s) (open_push bs b) ∙ sym (append_assoc (lines_of_block x.block) (lines_of_open bs) (lines_of_block b.block))

pub stacked_push : (bs : List OpenBlock) (b : OpenBlock) (os : List OpenedBlock) → stacked (bs ++ b ∷ []) os ≡ open_of b ∷ stacked bs os
stacked_push [] b os = refl
stacked_push (x ∷ bs) b os = stacked_push bs b (open_of x ∷ os)

pub stacked_length : (bs : List OpenBlock) (os : List OpenedBlock) → length (stacked bs os) ≡ length bs + length os
stacked_length [] os = omega arith
stacked_length (b ∷ bs) os = stacked_length bs (open_of b ∷ os) ∙ omega arith

pub leaf_lines : (line : ℕ) (wishes : Vec Wish Global) → lines_of_item (variants.Leaf line wishes) ≡ Leaf line wishes.items ∷ []
leaf_lines line wishes = ap lines_of_item (sym (variants.rolls-Leaf line wishes)) ∙ fold-roll-Item (List BodyLine) lines_in (layers.Leaf line wishes)

pub fault_lines : (line : ℕ) (causes : List ℕ) → lines_of_item (variants.FetchFault line causes) ≡ FetchFault line causes ∷ []
fault_lines line causes = ap lines_of_item (sym (variants.rolls-FetchFault line causes)) ∙ fold-roll-Item (List BodyLine) lines_in (layers.FetchFault line causes)

pub label_lines : (name : ℕ) → lines_of_item (variants.Label name) ≡ LabelOf name ∷ []
label_lines name = ap lines_of_item (sym (variants.rolls-Label name)) ∙ fold-roll-Item (List BodyLine) lines_in (layers.Label name)

pub seq_lines : (body : Vec Item Global) → lines_of_item (views.Seq body) ≡ EnterSeq ∷ lines_of_body body.items ++ Leave ∷ []
seq_lines body = ap lines_of_item (sym (variants.rolls-Seq body)) ∙ fold-roll-Item (List BodyLine) lines_in (layers.Seq body)

pub repeat_lines : (times : ℕ) (body : Vec Item Global) → lines_of_item (views.Repeat times body) ≡ EnterRepeat times ∷ lines_of_body body.items ++ Leave ∷ []
repeat_lines times body = ap lines_of_item (sym (variants.rolls-Repeat times body)) ∙ fold-roll-Item (List BodyLine) lines_in (layers.Repeat times body)

ways_are : (g : ℕ × Vec Item Global → ℕ × Vec (List BodyLine) Global) → ((w : ℕ × Vec Item Global) → (g w).0 ≡ w.0) → ((w : ℕ × Vec Item Global) → (g w).1.items ≡ map lines_of_item w.1.items) → (ws : List (ℕ × Vec Item Global)) → lines_of_ways (map g ws) ≡ lines_of_alternatives ws
ways_are g weights inner [] = refl
ways_are g weights inner (w ∷ ws) = rw (weights w, inner w, ways_are g weights inner ws) refl

pub choose_lines : (line : ℕ) (ways : Vec (ℕ × Vec Item Global) Global) → lines_of_item (views.Choose line ways) ≡ EnterChoose line ∷ lines_of_alternatives ways.items ++ Leave ∷ []
choose_lines line ways =
    ap lines_of_item (sym (variants.rolls-Choose line ways))
    ∙ fold-roll-Item (List BodyLine) lines_in (layers.Choose line ways)
    ∙ ap (λ (s : List BodyLine). EnterChoose line ∷ s ++ Leave ∷ []) (ways_are _ (λ w. refl) (λ w. refl) ways.items)

-- the innermost block grew by these lines
pub grown : (bs rest now : List OpenBlock) (b c : OpenBlock) (ls : List BodyLine) → bs ≡ rest ++ b ∷ [] → now ≡ rest ++ c ∷ [] → lines_of_block c.block ≡ lines_of_block b.block ++ ls → lines_of_open now ≡ lines_of_open bs ++ ls
grown bs rest now b c ls was is more =
    ap lines_of_open is ∙ open_push rest c ∙ ap (λ (s : List BodyLine). lines_of_open rest ++ s) more
    ∙ sym (append_assoc (lines_of_open rest) (lines_of_block b.block) ls)
    ∙ ap (λ (s : List BodyLine). s ++ ls) (sym (open_push rest b) ∙ sym (ap lines_of_open was))

pub weighted_push : (ws : List (ℕ × Vec Item Global)) (w : ℕ × Vec Item Global) → list_any (λ v. nat_lt 0 v.0) (ws ++ w ∷ []) ≡ (list_any (λ v. nat_lt 0 v.0) ws || nat_lt 0 w.0)
weighted_push [] w = or-false (nat_lt 0 w.0)
weighted_push (v ∷ ws) w = ap (λ (b : Bool). nat_lt 0 v.0 || b) (weighted_push ws w) ∙ sym (or_assoc (nat_lt 0 v.0) (list_any (λ v. nat_lt 0 v.0) ws) (nat_lt 0 w.0))

outermost : (os : List OpenedBlock) → fits_in Whole os ≡ true → os ≡ []
outermost [] h = refl
outermost (o ∷ os) h = absurd cc

empty : (bs : List OpenBlock) → length bs ≡ 0 → bs ≡ []
empty [] h = refl
empty (b ∷ bs) h = absurd (omega arith)

-- where the innermost block is the body itself, no other is open
pub alone : (rest : List OpenBlock) (b : OpenBlock) → kind_of b.block ≡ Whole → is_nested (stacked (rest ++ b ∷ []) []) ≡ true → rest ≡ []
alone rest b whole nested =
    let here : fits_in (kind_of b.block) (stacked rest []) && is_nested (stacked rest []) ≡ true = ap is_nested (sym (stacked_push rest b [])) ∙ nested in
    let none : stacked rest [] ≡ [] = outermost (stacked rest []) (ap (λ (k : language.Block). fits_in k (stacked rest [])) (sym whole) ∙ (and_parts _ _ here).0) in
    let size : length rest + 0 ≡ 0 = sym (stacked_length rest []) ∙ ap length none in
    empty rest (omega arith)

pub whole_lines : (bs rest : List OpenBlock) (b : OpenBlock) (items : Vec Item Global) → b.block ≡ blocks.Whole items → bs ≡ rest ++ b ∷ [] → is_nested (stacked bs []) ≡ true → lines_of_body items.items ≡ lines_of_open bs
whole_lines bs rest b items is was nested =
    let none : rest ≡ [] = alone rest b (ap kind_of is) (ap (λ (xs : List OpenBlock). is_nested (stacked xs [])) (sym was) ∙ nested) in
    sym (ap lines_of_open was ∙ open_push rest b ∙ ap (λ (xs : List OpenBlock). lines_of_open xs ++ lines_of_block b.block) none ∙ ap lines_of_block is)

-- what a block says when it is closed stands behind the blocks around it
pub left : (bs rest : List OpenBlock) (b : OpenBlock) (ls : List BodyLine) → bs ≡ rest ++ b ∷ [] → ls ≡ lines_of_block b.block ++ Leave ∷ [] → lines_of_open rest ++ ls ≡ lines_of_open bs ++ Leave ∷ []
left bs rest b ls was is =
    ap (λ (s : List BodyLine). lines_of_open rest ++ s) is
    ∙ sym (append_assoc (lines_of_open rest) (lines_of_block b.block) (Leave ∷ []))
    ∙ ap (λ (s : List BodyLine). s ++ Leave ∷ []) (sym (open_push rest b) ∙ sym (ap lines_of_open was))

moved : (x y z : Bool) → (x || (y || z)) ≡ ((y || x) || z)
moved true true z = refl
moved true false z = refl
moved false true z = refl
moved false false z = refl

any_stacked : (bs : List OpenBlock) (os : List OpenedBlock) → list_any is_repeat (stacked bs os) ≡ (list_any (λ b. is_repeat (open_of b)) bs || list_any is_repeat os)
any_stacked [] os = refl
any_stacked (b ∷ bs) os = any_stacked bs (open_of b ∷ os) ∙ moved (list_any (λ b. is_repeat (open_of b)) bs) (is_repeat (open_of b)) (list_any is_repeat os)

pub repeats : (bs : List OpenBlock) → list_any is_repeat (stacked bs []) ≡ list_any (λ b. is_repeat (open_of b)) bs
repeats bs = any_stacked bs [] ∙ or-false (list_any (λ b. is_repeat (open_of b)) bs)
