-- The lines of a body tell what it is expanded to.
use Rattle.std.proofs.Common.{◌≡◌, ℕ, List, [], ◌∷◌, ◌++◌, map, append_assoc, append-nil, refl, sym, ap, ◌∙◌, subst}
use Rattle.std.specs.Prelude.{Vec}
use Rattle.std.specs.Global.{Global}
use Rattle.std.proofs.Math.Path.{fun_ext}
use Rattle.tpl_ast.specs.declared.template.Item.{Item}
use Rattle.tpl_ast.specs.declared.template.Item.TheFolds.{fold-roll-Item, ind-Item, map-Item}
use Rattle.tpl_ast.specs.declared.template.Item.TheOpen.{Item-F}
use Rattle.tpl_ast.specs.declared.template.Item.TheOpen as layers
use Rattle.tpl_ast.specs.declared.template.Item.TheViews.{roll-Item}
use Rattle.tpl_ast.specs.Bodies.{BodyLine, Leaf, FetchFault, EnterSeq, EnterRepeat, EnterChoose, EnterWay, LabelOf, Leave, joined, lines_in, lines_of_body, lines_of_item, lines_of_ways}
use Rattle.tpl_ast.specs.Expansion as pieces
use Rattle.tpl_ast.specs.Expansion.{Expanding, chosen, in_order, expanded_in, expansion_of, expansion_of_item, one, repeated}
use Rattle.tpl_ast.proofs.Proved.{Proved, chosen_from, chosen_same, items_back, items_of, layouts_of, proved}

-- ---- lines read one after another, with the layouts of the blocks that are open

pub data Level : Type 0 where
  -- the layouts so far, and what they make once the block is closed
  Plain : List Expanding → (List Expanding → Expanding) → Level
  Ways : List (List Expanding) → Level
  Way : List Expanding → Level

abbrev pub put : Expanding → List Level → List Level
put x [] = []
put x (Plain xs close ∷ ls) = Plain (xs ++ x ∷ []) close ∷ ls
put x (Ways ys ∷ ls) = Ways ys ∷ ls
put x (Way xs ∷ ls) = Way (xs ++ x ∷ []) ∷ ls

abbrev put_all : List Expanding → List Level → List Level
put_all [] ls = ls
put_all (x ∷ xs) ls = put_all xs (put x ls)

abbrev pub close_way : List Expanding → List Level → List Level
close_way xs [] = []
close_way xs (Plain ys close ∷ ls) = Plain ys close ∷ ls
close_way xs (Ways ys ∷ ls) = Ways (ys ++ xs ∷ []) ∷ ls
close_way xs (Way ys ∷ ls) = Way ys ∷ ls

abbrev pub closed : List Level → List Level
closed [] = []
closed (Plain xs close ∷ ls) = put (close xs) ls
closed (Ways ys ∷ ls) = put (chosen_from ys) ls
closed (Way xs ∷ ls) = close_way xs ls

abbrev pub read : BodyLine → List Level → List Level
read (Leaf line wishes) ls = put (one (pieces.Leaf wishes)) ls
read (FetchFault line causes) ls = put (one (pieces.FetchFault causes)) ls
read EnterSeq ls = Plain [] in_order ∷ ls
read (EnterRepeat times) ls = Plain [] (λ xs. repeated times (in_order xs)) ∷ ls
read (EnterChoose line) ls = Ways [] ∷ ls
read (EnterWay weight) ls = Way [] ∷ ls
read (LabelOf name) ls = put (one (pieces.Label name)) ls
read Leave ls = closed ls

abbrev pub read_all : List BodyLine → List Level → List Level
read_all [] ls = ls
read_all (l ∷ lines) ls = read_all lines (read l ls)

read_both : (xs ys : List BodyLine) (ls : List Level) → read_all (xs ++ ys) ls ≡ read_all ys (read_all xs ls)
read_both [] ys ls = refl
read_both (x ∷ xs) ys ls = read_both xs ys (read x ls)

put_plain : (xs ys : List Expanding) (close : List Expanding → Expanding) (ls : List Level) → put_all xs (Plain ys close ∷ ls) ≡ Plain (ys ++ xs) close ∷ ls
put_plain [] ys close ls = ap (λ (zs : List Expanding). Plain zs close ∷ ls) (sym (append-nil ys))
put_plain (x ∷ xs) ys close ls = put_plain xs (ys ++ x ∷ []) close ls ∙ ap (λ (zs : List Expanding). Plain zs close ∷ ls) (append_assoc ys (x ∷ []) xs)

put_way : (xs ys : List Expanding) (ls : List Level) → put_all xs (Way ys ∷ ls) ≡ Way (ys ++ xs) ∷ ls
put_way [] ys ls = ap (λ (zs : List Expanding). Way zs ∷ ls) (sym (append-nil ys))
put_way (x ∷ xs) ys ls = put_way xs (ys ++ x ∷ []) ls ∙ ap (λ (zs : List Expanding). Way zs ∷ ls) (append_assoc ys (x ∷ []) xs)

-- ---- an item is read as its layout

abbrev IsTold : Item → Type 0
IsTold i = (ls : List Level) → read_all (lines_of_item i) ls ≡ put (expansion_of_item i) ls

told_items : (es : List (Proved IsTold)) (ls : List Level) → read_all (lines_of_body (items_of es)) ls ≡ put_all (map expansion_of_item (items_of es)) ls
told_items [] ls = refl
told_items (e ∷ es) ls =
    read_both (lines_of_item e.0) (lines_of_body (items_of es)) ls
    ∙ ap (read_all (lines_of_body (items_of es))) (e.1 ls)
    ∙ told_items es (put (expansion_of_item e.0) ls)

-- a block with these items
block_told : (es : List (Proved IsTold)) (close : List Expanding → Expanding) (ls : List Level) → read_all (lines_of_body (items_of es) ++ Leave ∷ []) (Plain [] close ∷ ls) ≡ put (close (map expansion_of_item (items_of es))) ls
block_told es close ls =
    read_both (lines_of_body (items_of es)) (Leave ∷ []) (Plain [] close ∷ ls)
    ∙ ap closed (told_items es (Plain [] close ∷ ls) ∙ put_plain (map expansion_of_item (items_of es)) [] close ls)

-- ---- alternatives

ways_told : (g : ℕ × Vec Item Global → ℕ × Vec (List BodyLine) Global) (h : ℕ × Vec (Proved IsTold) Global → ℕ × Vec Item Global)
    → ((v : ℕ × Vec Item Global) → (g v).1.items ≡ map lines_of_item v.1.items) → ((w : ℕ × Vec (Proved IsTold) Global) → (h w).1.items ≡ items_of w.1.items)
    → (ws : List (ℕ × Vec (Proved IsTold) Global)) (ys : List (List Expanding)) (ls : List Level) → read_all (lines_of_ways (map g (map h ws))) (Ways ys ∷ ls) ≡ Ways (ys ++ map layouts_of ws) ∷ ls
ways_told g h lines items [] ys ls = ap (λ (zs : List (List Expanding)). Ways zs ∷ ls) (sym (append-nil ys))
ways_told g h lines items (w ∷ ws) ys ls =
    let rest : List BodyLine = Leave ∷ lines_of_ways (map g (map h ws)) in
    let inner : (g (h w)).1.items ≡ map lines_of_item (items_of w.1.items) = lines (h w) ∙ ap (map lines_of_item) (items w) in
    read_both (joined (g (h w)).1.items) rest (Way [] ∷ Ways ys ∷ ls)
    ∙ ap (λ (xs : List (List BodyLine)). read_all rest (read_all (joined xs) (Way [] ∷ Ways ys ∷ ls))) inner
    ∙ ap (read_all rest) (told_items w.1.items (Way [] ∷ Ways ys ∷ ls) ∙ put_way (map expansion_of_item (items_of w.1.items)) [] (Ways ys ∷ ls))
    ∙ ways_told g h lines items ws (ys ++ map expansion_of_item (items_of w.1.items) ∷ []) ls
    ∙ ap (λ (zs : List (List Expanding)). Ways zs ∷ ls) (append_assoc ys (map expansion_of_item (items_of w.1.items) ∷ []) (map layouts_of ws))

choice_told : (g : ℕ × Vec Item Global → ℕ × Vec (List BodyLine) Global) (k : ℕ × Vec Item Global → ℕ × Vec Expanding Global) (h : ℕ × Vec (Proved IsTold) Global → ℕ × Vec Item Global)
    → ((v : ℕ × Vec Item Global) → (g v).1.items ≡ map lines_of_item v.1.items) → ((v : ℕ × Vec Item Global) → (k v).1.items ≡ map expansion_of_item v.1.items)
    → ((w : ℕ × Vec (Proved IsTold) Global) → (h w).1.items ≡ items_of w.1.items)
    → (ws : List (ℕ × Vec (Proved IsTold) Global)) (ls : List Level) → read_all (lines_of_ways (map g (map h ws)) ++ Leave ∷ []) (Ways [] ∷ ls) ≡ put (chosen (map k (map h ws))) ls
choice_told g k h lines layouts items ws ls =
    read_both (lines_of_ways (map g (map h ws))) (Leave ∷ []) (Ways [] ∷ ls)
    ∙ ap closed (ways_told g h lines items ws [] ls)
    ∙ ap (λ (x : Expanding). put x ls) (sym (fun_ext (chosen_same k h layouts items ws)))

-- ---- any item

told_by : (z : Item-F Item) → ((ls : List Level) → read_all (lines_in (map-Item _ _ lines_of_item z)) ls ≡ put (expanded_in (map-Item _ _ expansion_of_item z)) ls) → IsTold (roll-Item z)
told_by z same ls =
    ap (λ (lines : List BodyLine). read_all lines ls) (fold-roll-Item (List BodyLine) lines_in z)
    ∙ same ls
    ∙ sym (ap (λ (x : Expanding). put x ls) (fold-roll-Item Expanding expanded_in z))

step : (x : Item-F Item) (y : Item-F (Proved IsTold)) → map-Item _ _ (λ e. e.0) y ≡ x → IsTold (roll-Item x)
step x (layers.Leaf line wishes) is = subst (λ (z : Item-F Item). IsTold (roll-Item z)) is (told_by (layers.Leaf line wishes) (λ ls. refl))
step x (layers.FetchFault line causes) is = subst (λ (z : Item-F Item). IsTold (roll-Item z)) is (told_by (layers.FetchFault line causes) (λ ls. refl))
step x (layers.Label name) is = subst (λ (z : Item-F Item). IsTold (roll-Item z)) is (told_by (layers.Label name) (λ ls. refl))
step x (layers.Seq body) is = subst (λ (z : Item-F Item). IsTold (roll-Item z)) is (told_by _ (λ ls. block_told body.items in_order ls))
step x (layers.Repeat times body) is = subst (λ (z : Item-F Item). IsTold (roll-Item z)) is (told_by _ (λ ls. block_told body.items (λ xs. repeated times (in_order xs)) ls))
step x (layers.Choose line ways) is = subst (λ (z : Item-F Item). IsTold (roll-Item z)) is (told_by _ (λ ls. choice_told _ _ _ (λ v. refl) (λ v. refl) (λ w. refl) ways.items ls))

told : (i : Item) → IsTold i
told = ind-Item IsTold step

-- ---- bodies

pub body_told : (is : List Item) → read_all (lines_of_body is) (Plain [] in_order ∷ []) ≡ Plain (map expansion_of_item is) in_order ∷ []
body_told is =
    ap (λ (js : List Item). read_all (lines_of_body js) (Plain [] in_order ∷ [])) (sym (items_back told is))
    ∙ told_items (proved told is) (Plain [] in_order ∷ [])
    ∙ put_plain (map expansion_of_item (items_of (proved told is))) [] in_order []
    ∙ ap (λ (js : List Item). Plain (map expansion_of_item js) in_order ∷ []) (items_back told is)

abbrev pub layout_in_level : List Level → Expanding
layout_in_level (Plain xs close ∷ ls) = close xs
layout_in_level _ = pieces.nothing

pub lines_tell : (is js : List Item) → lines_of_body is ≡ lines_of_body js → expansion_of is ≡ expansion_of js
lines_tell is js same =
    ap layout_in_level (sym (body_told is) ∙ ap (λ (lines : List BodyLine). read_all lines (Plain [] in_order ∷ [])) same ∙ body_told js)
