-- The order of names in the items of a body, from that in its lines one after another.
use Rattle.std.proofs.Common.{◌≡◌, ℕ, ◌+◌, ◌&&◌, Bool, true, false, not, cond, eqb, List, [], ◌∷◌, ◌++◌, map, Option, Some, None, refl, sym, ap, ◌∙◌, subst, arith}
use Rattle.std.specs.Prelude.{Vec}
use Rattle.std.specs.Global.{Global}
use Rattle.std.specs.List.{list_all, list_any}
use Rattle.std.proofs.lemmas.Bool.Decides.{nat_tests}
use Rattle.std.proofs.lemmas.Option.{same_Some}
use Rattle.tpl_ast.specs.declared.template.HartDecl.{HartDecl}
use Rattle.tpl_ast.specs.declared.template.Item.{Item}
use Rattle.tpl_ast.specs.declared.template.Item.TheFolds.{fold-roll-Item, ind-Item, map-Item}
use Rattle.tpl_ast.specs.declared.template.Item.TheOpen.{Item-F}
use Rattle.tpl_ast.specs.declared.template.Item.TheOpen as layers
use Rattle.tpl_ast.specs.declared.template.Item.TheViews.{roll-Item}
use Rattle.tpl_ast.specs.Bodies.{BodyLine, Leaf, FetchFault, EnterSeq, EnterRepeat, EnterChoose, EnterWay, LabelOf, Leave, joined, lines_in, lines_of_body, lines_of_item, lines_of_ways, HartLines, hart_lines}
use Rattle.tpl_ast.specs.Naming.{◌>>=◌}
use Rattle.tpl_ast.specs.Leaves.{atoms_of, is_name_below}
use Rattle.tpl_ast.specs.Lengths.{length_of_body, length_of_item, saturated}
use Rattle.tpl_ast.specs.Naming.{Naming, named_by_ways, named_in_turn, naming_in, naming_of_body, naming_of_harts, naming_of_item}
use Rattle.tpl_lang.specs.Known.{Alternative, Choice, OpenedBlock, Sequence, Times}
use Rattle.tpl_lang.specs.Statements.{add_length, add_way, opened_as}
use Rattle.tpl_lang.specs.Faults.{is_repeat}
use Rattle.tpl_lang.proofs.Kept.{begun, body_in_block, counted, counted_all, counted_item, left, made}
use Rattle.tpl_ast.proofs.Proved.{Proved, items_back, items_of, proved}

-- ---- one part behind another

-- how many names are known between two parts
pub record Between (o : Option ℕ) (f : Naming) (m : ℕ) : Type 0 where
  pub known : ℕ
  pub first : o ≡ Some known
  pub second : f known ≡ Some m

pub between : (o : Option ℕ) (f : Naming) (m : ℕ) → o >>= f ≡ Some m → Between o f m
between None f m h = absurd (cc h)
between (Some k) f m h = record { known = k; first = refl; second = h }

pub joined_by : {o : Option ℕ} (f : Naming) {k m : ℕ} → o ≡ Some k → f k ≡ Some m → o >>= f ≡ Some m
joined_by f a b = ap (λ (o : Option ℕ). o >>= f) a ∙ b

-- ---- lines

abbrev pub named_line : BodyLine → List OpenedBlock → Naming
named_line (Leaf line wishes) os known = cond (list_all (is_name_below known) (atoms_of wishes)) (Some known) None
named_line (LabelOf name) os known = cond (eqb name known && not (list_any is_repeat os)) (Some (known + 1)) None
named_line (FetchFault line causes) os known = Some known
named_line EnterSeq os known = Some known
named_line (EnterRepeat times) os known = Some known
named_line (EnterChoose line) os known = Some known
named_line (EnterWay weight) os known = Some known
named_line Leave os known = Some known

abbrev pub named_lines : List BodyLine → List OpenedBlock → Naming
named_lines [] os known = Some known
named_lines (l ∷ ls) os known = named_line l os known >>= named_lines ls (counted l os)

pub named_both : (xs ys : List BodyLine) (os : List OpenedBlock) (n : ℕ) → named_lines (xs ++ ys) os n ≡ (named_lines xs os n >>= named_lines ys (counted_all xs os))
named_both [] ys os n = refl
named_both (x ∷ xs) ys os n = go (named_line x os n) (named_both xs ys (counted x os)) where
  go : (o : Option ℕ) → ((k : ℕ) → named_lines (xs ++ ys) (counted x os) k ≡ (named_lines xs (counted x os) k >>= named_lines ys (counted_all xs (counted x os))))
      → (o >>= named_lines (xs ++ ys) (counted x os)) ≡ ((o >>= named_lines xs (counted x os)) >>= named_lines ys (counted_all xs (counted x os)))
  go None rest = refl
  go (Some k) rest = rest k

-- a line more
pub named_more : (xs : List BodyLine) (l : BodyLine) (os : List OpenedBlock) (n k m : ℕ) → named_lines xs os n ≡ Some k → named_line l (counted_all xs os) k ≡ Some m → named_lines (xs ++ l ∷ []) os n ≡ Some m
named_more xs l os n k m first own = named_both xs (l ∷ []) os n ∙ joined_by (named_lines (l ∷ []) (counted_all xs os)) first (joined_by (named_lines [] (counted l (counted_all xs os))) own refl)

-- the names known at the place where two runs of lines meet
meets : (xs ys : List BodyLine) (os : List OpenedBlock) (n m : ℕ) → named_lines (xs ++ ys) os n ≡ Some m → Between (named_lines xs os n) (named_lines ys (counted_all xs os)) m
meets xs ys os n m h = between (named_lines xs os n) (named_lines ys (counted_all xs os)) m (sym (named_both xs ys os n) ∙ h)

-- ---- items

-- names come in order, and none is declared inside a repeat
record IsNamed (os : List OpenedBlock) (n m : ℕ) (x : Naming) : Type 0 where
  here : x n ≡ Some m
  same : list_any is_repeat os ≡ true → m ≡ n

abbrev Named : Item → Type 0
Named i = (os : List OpenedBlock) (n m : ℕ) → named_lines (lines_of_item i) os n ≡ Some m → IsNamed os n m (naming_of_item i)

repeat_longer : (n : ℕ) (os : List OpenedBlock) → list_any is_repeat (add_length n os) ≡ list_any is_repeat os
repeat_longer n [] = refl
repeat_longer n (o ∷ os) = refl

repeat_way : (w n : ℕ) (os : List OpenedBlock) → list_any is_repeat (add_way w n os) ≡ list_any is_repeat os
repeat_way w n [] = refl
repeat_way w n (o ∷ os) = refl

items_named : (es : List (Proved Named)) (os : List OpenedBlock) (n m : ℕ) → named_lines (lines_of_body (items_of es)) os n ≡ Some m → IsNamed os n m (naming_of_body (items_of es))
items_named [] os n m h = record { here = h; same = λ inside. sym (same_Some n m h) }
items_named (e ∷ es) os n m h =
    let a = meets (lines_of_item e.0) (lines_of_body (items_of es)) os n m h in
    let b = e.1 os n a.known a.first in
    let c = items_named es (counted_all (lines_of_item e.0) os) a.known m a.second in
    let stack : list_any is_repeat (counted_all (lines_of_item e.0) os) ≡ list_any is_repeat os = ap (λ (st : List OpenedBlock). list_any is_repeat st) (counted_item e.0 os) ∙ repeat_longer (length_of_item e.0) os in
    record {
      here = joined_by (naming_of_body (items_of es)) b.here c.here;
      same = λ inside. c.same (stack ∙ inside) ∙ b.same inside;
    }

-- with the brace behind them
block_named : (es : List (Proved Named)) (os : List OpenedBlock) (n m : ℕ) → named_lines (lines_of_body (items_of es) ++ Leave ∷ []) os n ≡ Some m → IsNamed os n m (naming_of_body (items_of es))
block_named es os n m h =
    let a = meets (lines_of_body (items_of es)) (Leave ∷ []) os n m h in
    items_named es os n m (a.first ∙ a.second)

repeat_named : (es : List (Proved Named)) (times : ℕ) (os : List OpenedBlock) (n m : ℕ) → named_lines (lines_of_body (items_of es) ++ Leave ∷ []) (opened_as (Times times) ∷ os) n ≡ Some m
    → IsNamed os n m (λ known. naming_of_body (items_of es) known >>= λ behind. cond (eqb behind known) (Some known) None)
repeat_named es times os n m h =
    let a = block_named es (opened_as (Times times) ∷ os) n m h in
    let same : m ≡ n = a.same refl in
    let itself : eqb n n ≡ true = grind (arith, nat_tests) in
    let own : cond (eqb m n) (Some n) None ≡ Some m = subst (λ (k : ℕ). cond (eqb k n) (Some n) None ≡ Some k) (sym same) (rw itself refl) in
    record {
      here = joined_by (λ behind. cond (eqb behind n) (Some n) None) a.here own;
      same = λ inside. same;
    }

-- alternatives
ways_named : (g : ℕ × Vec Item Global → ℕ × Vec (List BodyLine) Global) (k : ℕ × Vec Item Global → ℕ × Vec Naming Global) (h : ℕ × Vec (Proved Named) Global → ℕ × Vec Item Global)
    → ((v : ℕ × Vec Item Global) → (g v).1.items ≡ map lines_of_item v.1.items) → ((v : ℕ × Vec Item Global) → (k v).1.items ≡ map naming_of_item v.1.items)
    → ((w : ℕ × Vec (Proved Named) Global) → (h w).1.items ≡ items_of w.1.items)
    → (ws : List (ℕ × Vec (Proved Named) Global)) (os : List OpenedBlock) (n m : ℕ) → named_lines (lines_of_ways (map g (map h ws))) os n ≡ Some m → IsNamed os n m (named_by_ways (map k (map h ws)))
ways_named g k h lines namings items [] os n m is = record { here = is; same = λ inside. sym (same_Some n m is) }
ways_named g k h lines namings items (w ∷ ws) os n m is =
    let weight : ℕ = (g (h w)).0 in
    let body : List BodyLine = joined (g (h w)).1.items in
    let rest : List BodyLine = lines_of_ways (map g (map h ws)) in
    let size : ℕ = saturated (length_of_body (items_of w.1.items)) in
    let stack : List OpenedBlock = opened_as (Alternative weight) ∷ os in
    let inner : (g (h w)).1.items ≡ map lines_of_item (items_of w.1.items) = lines (h w) ∙ ap (map lines_of_item) (items w) in
    let same : body ≡ lines_of_body (items_of w.1.items) = ap joined inner in
    let behind : counted_all body stack ≡ made (Alternative weight) size ∷ os = ap (λ (xs : List BodyLine). counted_all xs stack) same ∙ body_in_block (items_of w.1.items) (Alternative weight) os in
    let a = meets body (Leave ∷ rest) stack n m is in
    let b = items_named w.1.items stack n a.known (subst (λ (xs : List BodyLine). named_lines xs stack n ≡ Some a.known) same a.first) in
    let more : named_lines rest (add_way weight size os) a.known ≡ Some m = subst (λ (st : List OpenedBlock). named_lines rest (left st) a.known ≡ Some m) behind a.second in
    let c = ways_named g k h lines namings items ws (add_way weight size os) a.known m more in
    let told : (k (h w)).1.items ≡ map naming_of_item (items_of w.1.items) = namings (h w) ∙ ap (map naming_of_item) (items w) in
    record {
      here = joined_by (named_by_ways (map k (map h ws))) (ap (λ (xs : List Naming). named_in_turn xs n) told ∙ b.here) c.here;
      same = λ inside. c.same (repeat_way weight size os ∙ inside) ∙ b.same inside;
    }

-- a choice, with the brace behind it
choice_named : (g : ℕ × Vec Item Global → ℕ × Vec (List BodyLine) Global) (k : ℕ × Vec Item Global → ℕ × Vec Naming Global) (h : ℕ × Vec (Proved Named) Global → ℕ × Vec Item Global)
    → ((v : ℕ × Vec Item Global) → (g v).1.items ≡ map lines_of_item v.1.items) → ((v : ℕ × Vec Item Global) → (k v).1.items ≡ map naming_of_item v.1.items)
    → ((w : ℕ × Vec (Proved Named) Global) → (h w).1.items ≡ items_of w.1.items)
    → (ws : List (ℕ × Vec (Proved Named) Global)) (os : List OpenedBlock) (n m : ℕ) → named_lines (lines_of_ways (map g (map h ws)) ++ Leave ∷ []) (opened_as Choice ∷ os) n ≡ Some m → IsNamed os n m (named_by_ways (map k (map h ws)))
choice_named g k h lines namings items ws os n m is =
    let a = meets (lines_of_ways (map g (map h ws))) (Leave ∷ []) (opened_as Choice ∷ os) n m is in
    let b = ways_named g k h lines namings items ws (opened_as Choice ∷ os) n m (a.first ∙ a.second) in
    record { here = b.here; same = λ inside. b.same inside }

-- ---- every item

-- a leaf and a label, from the answer for their one line
single : (c : Bool) (n m : ℕ) → (cond c (Some n) None >>= λ (k : ℕ). Some k) ≡ Some m → (c ≡ true) × (n ≡ m)
single true n m h = (refl, same_Some n m h)
single false n m h = absurd (cc h)

leaf_named : (c : Bool) (os : List OpenedBlock) (n m : ℕ) → (cond c (Some n) None >>= λ (k : ℕ). Some k) ≡ Some m → (cond c (Some n) None ≡ Some m) × (list_any is_repeat os ≡ true → m ≡ n)
leaf_named c os n m h = let a = single c n m h in (rw a.0 (ap Some a.1), λ inside. sym a.1)

label_named : (c d : Bool) (n m : ℕ) → (cond (c && not d) (Some (n + 1)) None >>= λ (k : ℕ). Some k) ≡ Some m → (cond c (Some (n + 1)) None ≡ Some m) × (d ≡ true → m ≡ n)
label_named true false n m h = (h, λ inside. absurd (cc inside))
label_named true true n m h = absurd (cc h)
label_named false d n m h = absurd (cc h)

named_by : (z : Item-F Item) → ((os : List OpenedBlock) (n m : ℕ) → named_lines (lines_in (map-Item _ _ lines_of_item z)) os n ≡ Some m → IsNamed os n m (naming_in (map-Item _ _ naming_of_item z))) → Named (roll-Item z)
named_by z same os n m h =
    subst (IsNamed os n m) (sym (fold-roll-Item Naming naming_in z))
    (same os n m (subst (λ (lines : List BodyLine). named_lines lines os n ≡ Some m) (fold-roll-Item (List BodyLine) lines_in z) h))

step : (x : Item-F Item) (y : Item-F (Proved Named)) → map-Item _ _ (λ e. e.0) y ≡ x → Named (roll-Item x)
step x (layers.Leaf line wishes) is = subst (λ (z : Item-F Item). Named (roll-Item z)) is (named_by (layers.Leaf line wishes) (λ os n m h.
    let a = leaf_named (list_all (is_name_below n) (atoms_of wishes.items)) os n m h in
    record { here = a.0; same = a.1 }))
step x (layers.FetchFault line causes) is = subst (λ (z : Item-F Item). Named (roll-Item z)) is (named_by (layers.FetchFault line causes) (λ os n m h. record { here = h; same = λ inside. sym (same_Some n m h) }))
step x (layers.Label name) is = subst (λ (z : Item-F Item). Named (roll-Item z)) is (named_by (layers.Label name) (λ os n m h.
    let a = label_named (eqb name n) (list_any is_repeat os) n m h in
    record { here = a.0; same = a.1 }))
step x (layers.Seq body) is = subst (λ (z : Item-F Item). Named (roll-Item z)) is (named_by _ (λ os n m h.
    let a = block_named body.items (opened_as Sequence ∷ os) n m h in
    record { here = a.here; same = λ inside. a.same inside }))
step x (layers.Repeat times body) is = subst (λ (z : Item-F Item). Named (roll-Item z)) is (named_by _ (λ os n m h. repeat_named body.items times os n m h))
step x (layers.Choose line ways) is = subst (λ (z : Item-F Item). Named (roll-Item z)) is (named_by _ (λ os n m h.
    choice_named _ _ _ (λ v. refl) (λ v. refl) (λ w. refl) ways.items os n m h))

item_named : (i : Item) → Named i
item_named = ind-Item Named step

-- ---- bodies

body_named : (items : List Item) (os : List OpenedBlock) (n m : ℕ) → named_lines (lines_of_body items) os n ≡ Some m → naming_of_body items n ≡ Some m
body_named items os n m h =
    subst (λ (is : List Item). naming_of_body is n ≡ Some m) (items_back item_named items)
    ((items_named (proved item_named items) os n m (subst (λ (is : List Item). named_lines (lines_of_body is) os n ≡ Some m) (sym (items_back item_named items)) h)).here)

-- the bodies of harts that have ended
abbrev pub named_harts : List HartLines → Naming
named_harts [] known = Some known
named_harts (h ∷ hs) known = named_lines h.body begun known >>= named_harts hs

pub harts_named : (hs : List HartDecl) (n m : ℕ) → named_harts (map hart_lines hs) n ≡ Some m → naming_of_harts hs n ≡ Some m
harts_named [] n m h = h
harts_named (d ∷ hs) n m h =
    let a = between (named_lines (lines_of_body d.body.items) begun n) (named_harts (map hart_lines hs)) m h in
    joined_by (naming_of_harts hs) (body_named d.body.items begun n a.known a.first) (harts_named hs a.known m a.second)

-- a hart more
pub one_hart_more : (hs : List HartLines) (h : HartLines) (n k m : ℕ) → named_harts hs n ≡ Some k → named_lines h.body begun k ≡ Some m → named_harts (hs ++ h ∷ []) n ≡ Some m
one_hart_more [] h n k m first own = joined_by (named_harts []) (subst (λ (x : ℕ). named_lines h.body begun x ≡ Some m) (sym (same_Some n k first)) own) refl
one_hart_more (g ∷ hs) h n k m first own =
    let a = between (named_lines g.body begun n) (named_harts hs) k first in
    joined_by (named_harts (hs ++ h ∷ [])) a.first (one_hart_more hs h a.known k m a.second own)
