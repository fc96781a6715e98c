-- The names of what is left to do: each label is the name behind all that were known in front of its place.
use Rattle.std.proofs.Common.{◌≡◌, ℕ, zero, suc, ◌+◌, ◌≤◌, ◌==◌, Bool, true, false, if◌then◌else◌, List, [], ◌∷◌, ◌++◌, map, Option, Some, None, refl, sym, ap, ◌∙◌, subst, arith}
use Rattle.std.specs.Prelude.{Vec}
use Rattle.std.specs.Global.{Global}
use Rattle.std.specs.List.{list_all, slice_get}
use Rattle.std.proofs.lemmas.Bool.{eqb-true}
use Rattle.tpl_ast.specs.declared.template.HartDecl.{HartDecl}
use Rattle.tpl_ast.specs.declared.template.Item.{Item}
use Rattle.tpl_ast.specs.declared.template.Item.TheFolds.{fold-roll-Item, ind-Item, map-Item}
use Rattle.tpl_ast.specs.declared.template.Item.TheOpen.{Item-F}
use Rattle.tpl_ast.specs.declared.template.Item.TheOpen as layers
use Rattle.tpl_ast.specs.declared.template.Item.TheVariants as items
use Rattle.tpl_ast.specs.declared.template.Item.TheViews.{roll-Item}
use Rattle.tpl_ast.specs.declared.template.Item.TheViews as views
use Rattle.tpl_ast.specs.declared.template.Wish.{Wish}
use Rattle.tpl_ast.specs.Expansion as pieces
use Rattle.tpl_ast.specs.Naming.{◌>>=◌}
use Rattle.tpl_ast.specs.Leaves.{atoms_of, is_name_below}
use Rattle.tpl_ast.specs.Naming.{Naming, named_by_ways, named_in_turn, naming_in, naming_of_body, naming_of_harts, naming_of_item}
use Rattle.tpl_ast.proofs.Proved.{Proved, items_of}
use Rattle.gen_search.specs.Search.{all_items, copies, of_hart}
use Rattle.gen_turn.proofs.Laying.{Tagged}

-- ---- pieces in order

-- from so many known names on, leaves use known names alone, and each label is none of those
abbrev pub AreInOrder : List Tagged → ℕ → Type 0
AreInOrder [] m = Unit {0}
AreInOrder ((k, pieces.Leaf ws) ∷ ps) m = (known : ℕ) × (m ≤ known) × (list_all (is_name_below known) (atoms_of ws) ≡ true) × AreInOrder ps known
AreInOrder ((k, pieces.Label n) ∷ ps) m = (m ≤ n) × AreInOrder ps (n + 1)
AreInOrder ((k, pieces.FetchFault causes) ∷ ps) m = AreInOrder ps m
AreInOrder ((k, pieces.Stuck) ∷ ps) m = AreInOrder ps m

pub order_less : (ps : List Tagged) (m n : ℕ) → m ≤ n → AreInOrder ps n → AreInOrder ps m
order_less [] m n le are = tt
order_less ((k, pieces.Leaf ws) ∷ ps) m n le are = (are.0, (let h = are.1 in omega (arith, h, le)), are.2, are.3)
order_less ((k, pieces.Label i) ∷ ps) m n le are = ((let h = are.0 in omega (arith, h, le)), are.1)
order_less ((k, pieces.FetchFault causes) ∷ ps) m n le are = order_less ps m n le are
order_less ((k, pieces.Stuck) ∷ ps) m n le are = order_less ps m n le are

-- ---- items in order

abbrev pub AreNamedAhead : List (ℕ × Item) → ℕ → Type 0
AreNamedAhead [] m = Unit {0}
AreNamedAhead (x ∷ xs) m = (known : ℕ) × (behind : ℕ) × (m ≤ known) × (naming_of_item x.1 known ≡ Some behind) × AreNamedAhead xs behind

pub named_less : (xs : List (ℕ × Item)) (m n : ℕ) → m ≤ n → AreNamedAhead xs n → AreNamedAhead xs m
named_less [] m n le are = tt
named_less (x ∷ xs) m n le are = (are.0, are.1, (let h = are.2 in omega (arith, h, le)), are.3, are.4)

-- what two in a row yield
then_some : (o : Option ℕ) (f : Naming) (v : ℕ) → (o >>= f) ≡ Some v → (u : ℕ) × (o ≡ Some u) × (f u ≡ Some v)
then_some None f v h = absurd (cc h)
then_some (Some u) f v h = (u, refl, h)

if_some : (b : Bool) (u v : ℕ) → (if b then Some u else None) ≡ Some v → (b ≡ true) × (u ≡ v)
if_some true u v h = (refl, cc h)
if_some false u v h = absurd (cc h)

-- ---- one item

leaf_naming : (line : ℕ) (ws : Vec Wish Global) (known : ℕ) → naming_of_item (items.Leaf line ws) known ≡ (if list_all (is_name_below known) (atoms_of ws.items) then Some known else None)
leaf_naming line ws known = ap (λ (i : Item). naming_of_item i known) (sym (items.rolls-Leaf line ws)) ∙ ap (λ (f : Naming). f known) (fold-roll-Item Naming naming_in (layers.Leaf line ws))

fault_naming : (line : ℕ) (causes : List ℕ) (known : ℕ) → naming_of_item (items.FetchFault line causes) known ≡ Some known
fault_naming line causes known = ap (λ (i : Item). naming_of_item i known) (sym (items.rolls-FetchFault line causes)) ∙ ap (λ (f : Naming). f known) (fold-roll-Item Naming naming_in (layers.FetchFault line causes))

label_naming : (name known : ℕ) → naming_of_item (items.Label name) known ≡ (if name == known then Some (known + 1) else None)
label_naming name known = ap (λ (i : Item). naming_of_item i known) (sym (items.rolls-Label name)) ∙ ap (λ (f : Naming). f known) (fold-roll-Item Naming naming_in (layers.Label name))

seq_naming : (body : Vec Item Global) (known : ℕ) → naming_of_item (views.Seq body) known ≡ naming_of_body body.items known
seq_naming body known = ap (λ (i : Item). naming_of_item i known) (sym (items.rolls-Seq body)) ∙ ap (λ (f : Naming). f known) (fold-roll-Item Naming naming_in (layers.Seq body))

repeat_naming : (times : ℕ) (body : Vec Item Global) (known : ℕ) → naming_of_item (views.Repeat times body) known ≡ (naming_of_body body.items known >>= λ behind. if behind == known then Some known else None)
repeat_naming times body known = ap (λ (i : Item). naming_of_item i known) (sym (items.rolls-Repeat times body)) ∙ ap (λ (f : Naming). f known) (fold-roll-Item Naming naming_in (layers.Repeat times body))

-- the alternatives of a choice in turn
abbrev named_by_all : List (ℕ × Vec Item Global) → Naming
named_by_all [] known = Some known
named_by_all (w ∷ ws) known = naming_of_body w.1.items known >>= named_by_all ws

then_same : (o : Option ℕ) (f g : Naming) → ((u : ℕ) → f u ≡ g u) → (o >>= f) ≡ (o >>= g)
then_same None f g same = refl
then_same (Some u) f g same = same u

ways_naming : (g : ℕ × Vec Item Global → ℕ × Vec Naming Global) → ((w : ℕ × Vec Item Global) → (g w).1.items ≡ map naming_of_item w.1.items) → (ws : List (ℕ × Vec Item Global)) (known : ℕ) → named_by_ways (map g ws) known ≡ named_by_all ws known
ways_naming g inner [] known = refl
ways_naming g inner (w ∷ ws) known =
    ap (λ (xs : List Naming). named_in_turn xs known >>= named_by_ways (map g ws)) (inner w)
    ∙ then_same (naming_of_body w.1.items known) (named_by_ways (map g ws)) (named_by_all ws) (ways_naming g inner ws)

choose_naming : (line : ℕ) (ways : Vec (ℕ × Vec Item Global) Global) (known : ℕ) → naming_of_item (views.Choose line ways) known ≡ named_by_all ways.items known
choose_naming line ways known =
    ap (λ (i : Item). naming_of_item i known) (sym (items.rolls-Choose line ways))
    ∙ ap (λ (f : Naming). f known) (fold-roll-Item Naming naming_in (layers.Choose line ways))
    ∙ ways_naming _ (λ w. refl) ways.items known

-- ---- no part forgets names

abbrev Grows : Item → Type 0
Grows i = (known behind : ℕ) → naming_of_item i known ≡ Some behind → known ≤ behind

body_grows : (es : List (Proved Grows)) (known behind : ℕ) → named_in_turn (map naming_of_item (items_of es)) known ≡ Some behind → known ≤ behind
body_grows [] known behind h = let same : known ≡ behind = cc h in omega (arith, same)
body_grows (e ∷ es) known behind h =
    let step = then_some (naming_of_item e.0 known) (named_in_turn (map naming_of_item (items_of es))) behind h in
    let one = e.1 known step.0 step.1 in
    let rest = body_grows es step.0 behind step.2 in
    omega (arith, one, rest)

again_grows : (o : Option ℕ) (known behind : ℕ) → (o >>= λ b. if b == known then Some known else None) ≡ Some behind → known ≤ behind
again_grows o known behind h =
    let step = then_some o (λ b. if b == known then Some known else None) behind h in
    let p = if_some (step.0 == known) known behind step.2 in
    let same : known ≡ behind = p.1 in
    omega (arith, same)

ways_grow : (g : ℕ × Vec Item Global → ℕ × Vec Naming Global) (h : ℕ × Vec (Proved Grows) Global → ℕ × Vec Item Global)
    → ((w : ℕ × Vec Item Global) → (g w).1.items ≡ map naming_of_item w.1.items) → ((w : ℕ × Vec (Proved Grows) Global) → (h w).1.items ≡ items_of w.1.items)
    → (ws : List (ℕ × Vec (Proved Grows) Global)) (known behind : ℕ) → named_by_ways (map g (map h ws)) known ≡ Some behind → known ≤ behind
ways_grow g h gs hs [] known behind is = let same : known ≡ behind = cc is in omega (arith, same)
ways_grow g h gs hs (w ∷ ws) known behind is =
    let step = then_some (named_in_turn (g (h w)).1.items known) (named_by_ways (map g (map h ws))) behind is in
    let one = body_grows w.1.items known step.0 (sym (ap (λ (xs : List Naming). named_in_turn xs known) (gs (h w) ∙ ap (map naming_of_item) (hs w))) ∙ step.1) in
    let rest = ways_grow g h gs hs ws step.0 behind step.2 in
    omega (arith, one, rest)

grows_by : (z : Item-F Item) → ((known behind : ℕ) → naming_in (map-Item _ _ naming_of_item z) known ≡ Some behind → known ≤ behind) → Grows (roll-Item z)
grows_by z same known behind h = same known behind (ap (λ (f : Naming). f known) (sym (fold-roll-Item Naming naming_in z)) ∙ h)

grows_step : (x : Item-F Item) (y : Item-F (Proved Grows)) → map-Item _ _ (λ e. e.0) y ≡ x → Grows (roll-Item x)
grows_step x (layers.Leaf line wishes) is = subst (λ (z : Item-F Item). Grows (roll-Item z)) is (grows_by (layers.Leaf line wishes) (λ known behind h. let p = if_some (list_all (is_name_below known) (atoms_of wishes.items)) known behind h in let same = p.1 in omega (arith, same)))
grows_step x (layers.FetchFault line causes) is = subst (λ (z : Item-F Item). Grows (roll-Item z)) is (grows_by (layers.FetchFault line causes) (λ known behind h. let same : known ≡ behind = cc h in omega (arith, same)))
grows_step x (layers.Label name) is = subst (λ (z : Item-F Item). Grows (roll-Item z)) is (grows_by (layers.Label name) (λ known behind h. let p = if_some (name == known) (known + 1) behind h in let same = p.1 in omega (arith, same)))
grows_step x (layers.Seq body) is = subst (λ (z : Item-F Item). Grows (roll-Item z)) is (grows_by _ (λ known behind h. body_grows body.items known behind h))
grows_step x (layers.Repeat times body) is = subst (λ (z : Item-F Item). Grows (roll-Item z)) is (grows_by _ (λ known behind h. again_grows (named_in_turn (map naming_of_item (items_of body.items)) known) known behind h))
grows_step x (layers.Choose line ways) is = subst (λ (z : Item-F Item). Grows (roll-Item z)) is (grows_by _ (λ known behind h. ways_grow _ _ (λ w. refl) (λ w. refl) ways.items known behind h))

grows : (i : Item) → Grows i
grows = ind-Item Grows grows_step

body_names : (items : List Item) (known behind : ℕ) → naming_of_body items known ≡ Some behind → known ≤ behind
body_names [] known behind h = let same : known ≡ behind = cc h in omega (arith, same)
body_names (i ∷ items) known behind h =
    let step = then_some (naming_of_item i known) (naming_of_body items) behind h in
    let one = grows i known step.0 step.1 in
    let rest = body_names items step.0 behind step.2 in
    omega (arith, one, rest)

all_ways_grow : (ws : List (ℕ × Vec Item Global)) (known behind : ℕ) → named_by_all ws known ≡ Some behind → known ≤ behind
all_ways_grow [] known behind h = let same : known ≡ behind = cc h in omega (arith, same)
all_ways_grow (w ∷ ws) known behind h =
    let step = then_some (naming_of_body w.1.items known) (named_by_all ws) behind h in
    let one = body_names w.1.items known step.0 step.1 in
    let rest = all_ways_grow ws step.0 behind step.2 in
    omega (arith, one, rest)

-- ---- what is left to do

pub body_ahead : (k : ℕ) (items : List Item) (todo : List (ℕ × Item)) (known behind : ℕ) → naming_of_body items known ≡ Some behind → AreNamedAhead todo behind → AreNamedAhead (of_hart k items ++ todo) known
body_ahead k [] todo known behind h ahead = let same : known ≡ behind = cc h in named_less todo known behind (omega (arith, same)) ahead
body_ahead k (i ∷ items) todo known behind h ahead =
    let step = then_some (naming_of_item i known) (naming_of_body items) behind h in
    (known, step.0, omega arith, step.1, body_ahead k items todo step.0 behind step.2 ahead)

append_ahead : (xs ys todo : List (ℕ × Item)) → (xs ++ ys) ++ todo ≡ xs ++ (ys ++ todo)
append_ahead [] ys todo = refl
append_ahead (x ∷ xs) ys todo = ap (λ (l : List (ℕ × Item)). x ∷ l) (append_ahead xs ys todo)

copies_ahead : (k n : ℕ) (items : List Item) (todo : List (ℕ × Item)) (known : ℕ) → naming_of_body items known ≡ Some known → AreNamedAhead todo known → AreNamedAhead (copies n (of_hart k items) ++ todo) known
copies_ahead k zero items todo known h ahead = ahead
copies_ahead k (suc n) items todo known h ahead =
    subst (λ (l : List (ℕ × Item)). AreNamedAhead l known) (sym (append_ahead (of_hart k items) (copies n (of_hart k items)) todo))
    (body_ahead k items (copies n (of_hart k items) ++ todo) known known h (copies_ahead k n items todo known h ahead))

module _ (k : ℕ) (todo : List (ℕ × Item)) (m : ℕ) where
  pub leaf_ahead : (line : ℕ) (ws : Vec Wish Global) → AreNamedAhead ((k, items.Leaf line ws) ∷ todo) m → (known : ℕ) × (m ≤ known) × (list_all (is_name_below known) (atoms_of ws.items) ≡ true) × AreNamedAhead todo known
  leaf_ahead line ws are =
      let p = if_some (list_all (is_name_below are.0) (atoms_of ws.items)) are.0 are.1 (sym (leaf_naming line ws are.0) ∙ are.3) in
      let same = p.1 in
      (are.0, are.2, p.0, named_less todo are.0 are.1 (omega (arith, same)) are.4)

  pub fault_ahead : (line : ℕ) (causes : List ℕ) → AreNamedAhead ((k, items.FetchFault line causes) ∷ todo) m → AreNamedAhead todo m
  fault_ahead line causes are =
      let same : are.0 ≡ are.1 = cc (sym (fault_naming line causes are.0) ∙ are.3) in
      let le = are.2 in
      named_less todo m are.1 (omega (arith, le, same)) are.4

  pub label_ahead : (name : ℕ) → AreNamedAhead ((k, items.Label name) ∷ todo) m → (m ≤ name) × AreNamedAhead todo (name + 1)
  label_ahead name are =
      let p = if_some (name == are.0) (are.0 + 1) are.1 (sym (label_naming name are.0) ∙ are.3) in
      let is : name ≡ are.0 = eqb-true name are.0 p.0 in
      let same = p.1 in
      let le = are.2 in
      (omega (arith, le, is), named_less todo (name + 1) are.1 (omega (arith, same, is)) are.4)

  pub seq_ahead : (body : Vec Item Global) → AreNamedAhead ((k, views.Seq body) ∷ todo) m → AreNamedAhead (of_hart k body.items ++ todo) m
  seq_ahead body are = named_less (of_hart k body.items ++ todo) m are.0 are.2 (body_ahead k body.items todo are.0 are.1 (sym (seq_naming body are.0) ∙ are.3) are.4)

  pub repeat_ahead : (times : ℕ) (body : Vec Item Global) → AreNamedAhead ((k, views.Repeat times body) ∷ todo) m → AreNamedAhead (copies times (of_hart k body.items) ++ todo) m
  repeat_ahead times body are =
      let step = then_some (naming_of_body body.items are.0) (λ behind. if behind == are.0 then Some are.0 else None) are.1 (sym (repeat_naming times body are.0) ∙ are.3) in
      let p = if_some (step.0 == are.0) are.0 are.1 step.2 in
      let is : step.0 ≡ are.0 = eqb-true step.0 are.0 p.0 in
      let same = p.1 in
      named_less (copies times (of_hart k body.items) ++ todo) m are.0 are.2
      (copies_ahead k times body.items todo are.0 (step.1 ∙ ap (λ (u : ℕ). Some u) is) (named_less todo are.0 are.1 (omega (arith, same)) are.4))

  way_ahead : (ws : List (ℕ × Vec Item Global)) (n : ℕ) (way : ℕ × Vec Item Global) (known behind : ℕ) → slice_get ws n ≡ Some way → named_by_all ws known ≡ Some behind → AreNamedAhead todo behind → AreNamedAhead (of_hart k way.1.items ++ todo) known
  way_ahead [] n way known behind is h ahead = absurd (cc is)
  way_ahead (w ∷ ws) zero way known behind is h ahead =
      let step = then_some (naming_of_body w.1.items known) (named_by_all ws) behind h in
      let same : w ≡ way = cc is in
      let rest = all_ways_grow ws step.0 behind step.2 in
      subst (λ (v : ℕ × Vec Item Global). AreNamedAhead (of_hart k v.1.items ++ todo) known) same (body_ahead k w.1.items todo known step.0 step.1 (named_less todo step.0 behind rest ahead))
  way_ahead (w ∷ ws) (suc n) way known behind is h ahead =
      let step = then_some (naming_of_body w.1.items known) (named_by_all ws) behind h in
      let one = body_names w.1.items known step.0 step.1 in
      named_less (of_hart k way.1.items ++ todo) known step.0 one (way_ahead ws n way step.0 behind is step.2 ahead)

  pub choice_ahead : (line : ℕ) (ways : Vec (ℕ × Vec Item Global) Global) (n : ℕ) (way : ℕ × Vec Item Global) → slice_get ways.items n ≡ Some way → AreNamedAhead ((k, views.Choose line ways) ∷ todo) m → AreNamedAhead (of_hart k way.1.items ++ todo) m
  choice_ahead line ways n way is are =
      named_less (of_hart k way.1.items ++ todo) m are.0 are.2 (way_ahead ways.items n way are.0 are.1 is (sym (choose_naming line ways are.0) ∙ are.3) are.4)

pub harts_ahead : (k : ℕ) (hs : List HartDecl) (known behind : ℕ) → naming_of_harts hs known ≡ Some behind → AreNamedAhead (all_items k hs) known
harts_ahead k [] known behind h = tt
harts_ahead k (h ∷ hs) known behind is =
    let step = then_some (naming_of_body h.body.items known) (naming_of_harts hs) behind is in
    body_ahead k h.body.items (all_items (k + 1) hs) known step.0 step.1 (harts_ahead (k + 1) hs step.0 behind step.2)
