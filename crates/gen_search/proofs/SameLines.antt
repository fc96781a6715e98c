-- Items and bodies that stand in the same lines.
use Rattle.std.proofs.Common.{◌≡◌, ℕ, zero, suc, List, [], ◌∷◌, ◌++◌, map, append_assoc, refl, sym, ap, ◌∙◌, subst}
use Rattle.std.specs.Prelude.{Vec}
use Rattle.std.specs.Global.{Global}
use Rattle.std.proofs.lemmas.List.{append_cancel_right}
use Rattle.tpl_ast.specs.declared.template.Item.{Item}
use Rattle.tpl_ast.specs.declared.template.Item.TheFolds.{fold-roll-Item, ind-Item, map-Item}
use Rattle.tpl_ast.specs.declared.template.Item.TheOpen.{Item-F}
use Rattle.tpl_ast.specs.declared.template.Item.TheOpen as layers
use Rattle.tpl_ast.specs.declared.template.Item.TheVariants as variants
use Rattle.tpl_ast.specs.declared.template.Item.TheViews.{roll-Item}
use Rattle.tpl_ast.specs.declared.template.Item.TheViews as views
use Rattle.tpl_ast.specs.declared.template.Wish.{Wish}
use Rattle.tpl_ast.specs.Bodies.{BodyLine, Leaf, FetchFault, EnterSeq, EnterRepeat, EnterChoose, EnterWay, LabelOf, Leave, joined, lines_in, lines_of_body, lines_of_item, lines_of_ways}
use Rattle.tpl_ast.proofs.Proved.{Proved, items_back, items_of, proved}
use Rattle.gen_search.specs.Moved.{SameLeaf, same_do, same_fault}
use Rattle.gen_search.specs.Search.{IsLeaf, leaf, fault, of_hart}

-- items by harts, and alternatives by weights, with their lines
abbrev pub told : List (ℕ × Item) → List (ℕ × List BodyLine)
told todo = map (λ x. (x.0, lines_of_item x.1)) todo

abbrev pub told_ways : List (ℕ × Vec Item Global) → List (ℕ × List BodyLine)
told_ways ways = map (λ w. (w.0, lines_of_body w.1.items)) ways

-- ---- lines one after another

-- how many blocks are open behind a line
abbrev open_behind : BodyLine → ℕ → ℕ
open_behind (Leaf line wishes) n = n
open_behind (FetchFault line causes) n = n
open_behind EnterSeq n = suc n
open_behind (EnterRepeat times) n = suc n
open_behind (EnterChoose line) n = suc n
open_behind (EnterWay weight) n = suc n
open_behind (LabelOf name) n = n
open_behind Leave zero = zero
open_behind Leave (suc n) = n

-- the lines behind the end of so many open blocks
abbrev past : ℕ → List BodyLine → List BodyLine
past zero lines = lines
past (suc n) [] = []
past (suc n) (l ∷ lines) = past (open_behind l (suc n)) lines

-- the same where one line at least is read first, which opens a block or not
abbrev past_first : ℕ → List BodyLine → List BodyLine
past_first n [] = []
past_first n (l ∷ lines) = past (open_behind l n) lines

first_past : (n : ℕ) (lines : List BodyLine) → past (suc n) lines ≡ past_first (suc n) lines
first_past n [] = refl
first_past n (l ∷ lines) = refl

-- ---- an item closes each block that it opens

abbrev IsPassed : Item → Type 0
IsPassed i = (n : ℕ) (rest : List BodyLine) → past_first n (lines_of_item i ++ rest) ≡ past n rest

items_passed : (es : List (Proved IsPassed)) (n : ℕ) (rest : List BodyLine) → past (suc n) (lines_of_body (items_of es) ++ rest) ≡ past (suc n) rest
items_passed [] n rest = refl
items_passed (e ∷ es) n rest =
    ap (past (suc n)) (append_assoc (lines_of_item e.0) (lines_of_body (items_of es)) rest)
    ∙ first_past n (lines_of_item e.0 ++ (lines_of_body (items_of es) ++ rest))
    ∙ e.1 (suc n) (lines_of_body (items_of es) ++ rest)
    ∙ items_passed es n rest

block_passed : (es : List (Proved IsPassed)) (n : ℕ) (rest : List BodyLine) → past (suc n) ((lines_of_body (items_of es) ++ Leave ∷ []) ++ rest) ≡ past n rest
block_passed es n rest = ap (past (suc n)) (append_assoc (lines_of_body (items_of es)) (Leave ∷ []) rest) ∙ items_passed es n (Leave ∷ rest)

-- ---- alternatives

abbrev lines_of_choice : List (ℕ × Vec Item Global) → List BodyLine
lines_of_choice [] = []
lines_of_choice (w ∷ ws) = EnterWay w.0 ∷ lines_of_body w.1.items ++ Leave ∷ lines_of_choice ws

ways_are : (g : ℕ × Vec Item Global → ℕ × Vec (List BodyLine) Global) → ((w : ℕ × Vec Item Global) → (g w).0 ≡ w.0) → ((w : ℕ × Vec Item Global) → (g w).1.items ≡ map lines_of_item w.1.items)
    → (ws : List (ℕ × Vec Item Global)) → lines_of_ways (map g ws) ≡ lines_of_choice ws
ways_are g weights inner [] = refl
ways_are g weights inner (w ∷ ws) = λ i. EnterWay (weights w i) ∷ joined (inner w i) ++ Leave ∷ ways_are g weights inner ws i

ways_passed : (h : ℕ × Vec (Proved IsPassed) Global → ℕ × Vec Item Global) → ((w : ℕ × Vec (Proved IsPassed) Global) → (h w).1.items ≡ items_of w.1.items)
    → (ws : List (ℕ × Vec (Proved IsPassed) Global)) (n : ℕ) (rest : List BodyLine) → past (suc n) (lines_of_choice (map h ws) ++ rest) ≡ past (suc n) rest
ways_passed h items [] n rest = refl
ways_passed h items (w ∷ ws) n rest =
    let more : List BodyLine = lines_of_choice (map h ws) in
    ap (past (suc (suc n))) (append_assoc (lines_of_body (h w).1.items) (Leave ∷ more) rest)
    ∙ ap (λ (is : List Item). past (suc (suc n)) (lines_of_body is ++ (Leave ∷ more ++ rest))) (items w)
    ∙ items_passed w.1.items (suc n) (Leave ∷ more ++ rest)
    ∙ ways_passed h items ws n rest

choice_passed : (g : ℕ × Vec Item Global → ℕ × Vec (List BodyLine) Global) (h : ℕ × Vec (Proved IsPassed) Global → ℕ × Vec Item Global)
    → ((w : ℕ × Vec Item Global) → (g w).0 ≡ w.0) → ((w : ℕ × Vec Item Global) → (g w).1.items ≡ map lines_of_item w.1.items) → ((w : ℕ × Vec (Proved IsPassed) Global) → (h w).1.items ≡ items_of w.1.items)
    → (ws : List (ℕ × Vec (Proved IsPassed) Global)) (n : ℕ) (rest : List BodyLine) → past (suc n) ((lines_of_ways (map g (map h ws)) ++ Leave ∷ []) ++ rest) ≡ past n rest
choice_passed g h weights inner items ws n rest =
    ap (λ (lines : List BodyLine). past (suc n) ((lines ++ Leave ∷ []) ++ rest)) (ways_are g weights inner (map h ws))
    ∙ ap (past (suc n)) (append_assoc (lines_of_choice (map h ws)) (Leave ∷ []) rest)
    ∙ ways_passed h items ws n (Leave ∷ rest)

-- ---- any item

passed_by : (z : Item-F Item) → ((n : ℕ) (rest : List BodyLine) → past_first n (lines_in (map-Item _ _ lines_of_item z) ++ rest) ≡ past n rest) → IsPassed (roll-Item z)
passed_by z passes n rest = ap (λ (lines : List BodyLine). past_first n (lines ++ rest)) (fold-roll-Item (List BodyLine) lines_in z) ∙ passes n rest

step : (x : Item-F Item) (y : Item-F (Proved IsPassed)) → map-Item _ _ (λ e. e.0) y ≡ x → IsPassed (roll-Item x)
step x (layers.Leaf line wishes) is = subst (λ (z : Item-F Item). IsPassed (roll-Item z)) is (passed_by (layers.Leaf line wishes) (λ n rest. refl))
step x (layers.FetchFault line causes) is = subst (λ (z : Item-F Item). IsPassed (roll-Item z)) is (passed_by (layers.FetchFault line causes) (λ n rest. refl))
step x (layers.Label name) is = subst (λ (z : Item-F Item). IsPassed (roll-Item z)) is (passed_by (layers.Label name) (λ n rest. refl))
step x (layers.Seq body) is = subst (λ (z : Item-F Item). IsPassed (roll-Item z)) is (passed_by _ (block_passed body.items))
step x (layers.Repeat times body) is = subst (λ (z : Item-F Item). IsPassed (roll-Item z)) is (passed_by _ (block_passed body.items))
step x (layers.Choose line ways) is = subst (λ (z : Item-F Item). IsPassed (roll-Item z)) is (passed_by _ (choice_passed _ _ (λ w. refl) (λ w. refl) (λ w. refl) ways.items))

passed : (i : Item) → IsPassed i
passed = ind-Item IsPassed step

body_passed : (is : List Item) (n : ℕ) (rest : List BodyLine) → past (suc n) (lines_of_body is ++ rest) ≡ past (suc n) rest
body_passed is n rest = subst (λ (js : List Item). past (suc n) (lines_of_body js ++ rest) ≡ past (suc n) rest) (items_back passed is) (items_passed (proved passed is) n rest)

-- ---- what an item is by its lines

-- an item that has these lines: the first one tells its kind
abbrev HasLines : List BodyLine → Item → Type 0
HasLines [] i = ⊥
HasLines (Leaf line wishes ∷ lines) i = (ws : Vec Wish Global) × (i ≡ variants.Leaf line ws) × (wishes ≡ ws.items)
HasLines (FetchFault line causes ∷ lines) i = i ≡ variants.FetchFault line causes
HasLines (EnterSeq ∷ lines) i = (body : Vec Item Global) × (i ≡ views.Seq body) × (lines ≡ lines_of_body body.items ++ Leave ∷ [])
HasLines (EnterRepeat times ∷ lines) i = (body : Vec Item Global) × (i ≡ views.Repeat times body) × (lines ≡ lines_of_body body.items ++ Leave ∷ [])
HasLines (EnterChoose line ∷ lines) i = (ways : Vec (ℕ × Vec Item Global) Global) × (i ≡ views.Choose line ways) × (lines ≡ lines_of_choice ways.items ++ Leave ∷ [])
HasLines (EnterWay weight ∷ lines) i = ⊥
HasLines (LabelOf name ∷ lines) i = i ≡ variants.Label name
HasLines (Leave ∷ lines) i = ⊥

has_by : (z : Item-F Item) → HasLines (lines_in (map-Item _ _ lines_of_item z)) (roll-Item z) → HasLines (lines_of_item (roll-Item z)) (roll-Item z)
has_by z has = subst (λ (lines : List BodyLine). HasLines lines (roll-Item z)) (sym (fold-roll-Item (List BodyLine) lines_in z)) has

has_rolled : (z : Item-F Item) → HasLines (lines_of_item (roll-Item z)) (roll-Item z)
has_rolled (layers.Leaf line wishes) = has_by (layers.Leaf line wishes) (wishes, variants.rolls-Leaf line wishes, refl)
has_rolled (layers.FetchFault line causes) = has_by (layers.FetchFault line causes) (variants.rolls-FetchFault line causes)
has_rolled (layers.Seq body) = has_by (layers.Seq body) (body, variants.rolls-Seq body, refl)
has_rolled (layers.Repeat times body) = has_by (layers.Repeat times body) (body, variants.rolls-Repeat times body, refl)
has_rolled (layers.Choose line ways) =
    has_by (layers.Choose line ways) (ways, variants.rolls-Choose line ways, ap (λ (lines : List BodyLine). lines ++ Leave ∷ []) (ways_are _ (λ w. refl) (λ w. refl) ways.items))
has_rolled (layers.Label name) = has_by (layers.Label name) (variants.rolls-Label name)

has_lines : (i : Item) → HasLines (lines_of_item i) i
has_lines = ind-Item (λ i. HasLines (lines_of_item i) i) (λ x y is. has_rolled x)

-- ---- items of the same lines

-- an item with the lines of another is what those tell
has_those : (i other : Item) (z : Item-F Item) → roll-Item z ≡ i → lines_of_item i ≡ lines_of_item other → HasLines (lines_in (map-Item _ _ lines_of_item z)) other
has_those i other z rolls same = subst (λ (lines : List BodyLine). HasLines lines other) (sym same ∙ ap lines_of_item (sym rolls) ∙ fold-roll-Item (List BodyLine) lines_in z) (has_lines other)

pub leaf_alike : {line : ℕ} {i : Item} → IsLeaf i line → (other : Item) → lines_of_item i ≡ lines_of_item other → IsLeaf other line × SameLeaf i other
leaf_alike (leaf line wishes) other same =
    let (ws, is, atoms) = has_those (variants.Leaf line wishes) other (layers.Leaf line wishes) (variants.rolls-Leaf line wishes) same in
    (subst (λ (i : Item). IsLeaf i line) (sym is) (leaf line ws), subst (SameLeaf (variants.Leaf line wishes)) (sym is) (same_do line wishes ws atoms))
leaf_alike (fault line causes) other same =
    let is : other ≡ variants.FetchFault line causes = has_those (variants.FetchFault line causes) other (layers.FetchFault line causes) (variants.rolls-FetchFault line causes) same in
    (subst (λ (i : Item). IsLeaf i line) (sym is) (fault line causes), subst (SameLeaf (variants.FetchFault line causes)) (sym is) (same_fault line causes))

pub label_alike : (name : ℕ) (other : Item) → lines_of_item (variants.Label name) ≡ lines_of_item other → other ≡ variants.Label name
label_alike name other same = has_those (variants.Label name) other (layers.Label name) (variants.rolls-Label name) same

-- an item that is made of some body of these lines
abbrev pub IsMadeOf : (Vec Item Global → Item) → List BodyLine → Item → Type 0
IsMadeOf make lines i = (body : Vec Item Global) × (i ≡ make body) × (lines ≡ lines_of_body body.items)

-- the end of a block is none of its body's lines
without_end : (make : Vec Item Global → Item) (lines : List BodyLine) (i : Item) → (body : Vec Item Global) × (i ≡ make body) × (lines ++ Leave ∷ [] ≡ lines_of_body body.items ++ Leave ∷ []) → IsMadeOf make lines i
without_end make lines i (body, is, same) = (body, is, append_cancel_right lines (lines_of_body body.items) (Leave ∷ []) same)

pub seq_alike : (body : Vec Item Global) (other : Item) → lines_of_item (views.Seq body) ≡ lines_of_item other → IsMadeOf views.Seq (lines_of_body body.items) other
seq_alike body other same = without_end views.Seq (lines_of_body body.items) other (has_those (views.Seq body) other (layers.Seq body) (variants.rolls-Seq body) same)

pub repeat_alike : (times : ℕ) (body : Vec Item Global) (other : Item) → lines_of_item (views.Repeat times body) ≡ lines_of_item other → IsMadeOf (views.Repeat times) (lines_of_body body.items) other
repeat_alike times body other same =
    without_end (views.Repeat times) (lines_of_body body.items) other (has_those (views.Repeat times body) other (layers.Repeat times body) (variants.rolls-Repeat times body) same)

-- ---- bodies and choices of the same lines

some_lines : (lines : List BodyLine) (i : Item) (rest : List BodyLine) → HasLines lines i → [] ≡ lines ++ rest → ⊥
some_lines [] i rest has same = has
some_lines (l ∷ lines) i rest has same = cc

pub body_told : (hart : ℕ) (is js : List Item) → lines_of_body is ≡ lines_of_body js → told (of_hart hart is) ≡ told (of_hart hart js)
body_told hart [] [] same = refl
body_told hart [] (j ∷ js) same = absurd (some_lines (lines_of_item j) j (lines_of_body js) (has_lines j) same)
body_told hart (i ∷ is) [] same = absurd (some_lines (lines_of_item i) i (lines_of_body is) (has_lines i) (sym same))
body_told hart (i ∷ is) (j ∷ js) same =
    let rest : lines_of_body is ≡ lines_of_body js = sym (passed i 0 (lines_of_body is)) ∙ ap (past_first 0) same ∙ passed j 0 (lines_of_body js) in
    let first : lines_of_item i ≡ lines_of_item j = append_cancel_right (lines_of_item i) (lines_of_item j) (lines_of_body js) (ap (λ (lines : List BodyLine). lines_of_item i ++ lines) (sym rest) ∙ same) in
    λ k. (hart, first k) ∷ body_told hart is js rest k

ways_told : (ws vs : List (ℕ × Vec Item Global)) → lines_of_choice ws ≡ lines_of_choice vs → told_ways ws ≡ told_ways vs
ways_told [] [] same = refl
ways_told [] (v ∷ vs) same = cc
ways_told (w ∷ ws) [] same = cc
ways_told (w ∷ ws) (v ∷ vs) same =
    let weight : w.0 ≡ v.0 = cc in
    let lines : lines_of_body w.1.items ++ Leave ∷ lines_of_choice ws ≡ lines_of_body v.1.items ++ Leave ∷ lines_of_choice vs = cc in
    let rest : lines_of_choice ws ≡ lines_of_choice vs = sym (body_passed w.1.items 0 (Leave ∷ lines_of_choice ws)) ∙ ap (past 1) lines ∙ body_passed v.1.items 0 (Leave ∷ lines_of_choice vs) in
    let body : lines_of_body w.1.items ≡ lines_of_body v.1.items =
    append_cancel_right (lines_of_body w.1.items) (lines_of_body v.1.items) (Leave ∷ lines_of_choice vs) (ap (λ (more : List BodyLine). lines_of_body w.1.items ++ Leave ∷ more) (sym rest) ∙ lines) in
    λ k. (weight k, body k) ∷ ways_told ws vs rest k

pub choose_alike : (line : ℕ) (ways : Vec (ℕ × Vec Item Global) Global) (other : Item) → lines_of_item (views.Choose line ways) ≡ lines_of_item other
    → (vs : Vec (ℕ × Vec Item Global) Global) × (other ≡ views.Choose line vs) × (told_ways ways.items ≡ told_ways vs.items)
choose_alike line ways other same =
    let has = has_those (views.Choose line ways) other (layers.Choose line ways) (variants.rolls-Choose line ways) same in
    let lines : lines_of_choice ways.items ++ Leave ∷ [] ≡ lines_of_choice has.0.items ++ Leave ∷ [] = ap (λ (lines : List BodyLine). lines ++ Leave ∷ []) (sym (ways_are _ (λ w. refl) (λ w. refl) ways.items)) ∙ has.2 in
    (has.0, has.1, ways_told ways.items has.0.items (append_cancel_right (lines_of_choice ways.items) (lines_of_choice has.0.items) (Leave ∷ []) lines))
