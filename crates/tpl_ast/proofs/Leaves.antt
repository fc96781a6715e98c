-- A body is laid out as at most as many records as its length says, and as just as many where nothing leaves that open.
use Rattle.std.proofs.Common.{◌≡◌, ℕ, zero, suc, ◌+◌, ◌*◌, ◌≤◌, max, List, [], ◌∷◌, ◌++◌, map, Option, Some, None, refl, sym, ap, ◌∙◌, subst, arith}
use Rattle.std.specs.Prelude.{Vec}
use Rattle.std.specs.Global.{Global}
use Rattle.std.specs.List.{slice_get}
use Rattle.tpl_ast.specs.declared.template.Item.{Item}
use Rattle.tpl_ast.specs.declared.template.Item.TheFolds.{fold-roll-Item, ind-Item, map-Item}
use Rattle.tpl_ast.specs.declared.template.Item.TheOpen.{Item-F}
use Rattle.tpl_ast.specs.declared.template.Item.TheOpen as layers
use Rattle.tpl_ast.specs.declared.template.Item.TheViews.{roll-Item}
use Rattle.std.proofs.lemmas.Option.{same_Some}
use Rattle.tpl_ast.specs.Expansion.{Piece, Leaf, FetchFault, Label, Stuck, Expanded, Expanding, behind, chosen, in_order, expanded_in, expansion_of, expansion_of_item, one, records_in, repeated}
use Rattle.tpl_ast.specs.Lengths.{fixed_in, fixed_of_body, fixed_of_item, length_in, length_of_body, length_of_item, longest_of, plus, some_times, sum_of}
use Rattle.tpl_ast.proofs.Proved.{Proved, chosen_from, chosen_same, items_back, items_of, layouts_of, proved, taken_from}

-- ---- numbers

left_most : (a b : ℕ) → a ≤ max a b
left_most zero b = omega arith
left_most (suc a) zero = omega arith
left_most (suc a) (suc b) = omega (arith, left_most a b)

right_most : (a b : ℕ) → b ≤ max a b
right_most zero b = omega arith
right_most (suc a) zero = omega arith
right_most (suc a) (suc b) = omega (arith, right_most a b)

most_one : (m : ℕ) → max 1 (suc m) ≡ suc m
most_one m = omega arith

-- ---- layouts

abbrev HasAtMost : ℕ → Expanding → Type 0
HasAtMost n x = (choices : List ℕ) → records_in (x choices).pieces ≤ n

records_both : (ps qs : List Piece) → records_in (ps ++ qs) ≡ records_in ps + records_in qs
records_both [] qs = omega arith
records_both (Leaf ws ∷ ps) qs = omega (arith, records_both ps qs)
records_both (FetchFault ns ∷ ps) qs = omega (arith, records_both ps qs)
records_both (Label name ∷ ps) qs = records_both ps qs
records_both (Stuck ∷ ps) qs = records_both ps qs

behind_fits : (ps : List Piece) (left : Option (List ℕ)) (next : Expanding) (a b : ℕ) → records_in ps ≤ a → HasAtMost b next → records_in (behind (record { pieces = ps; left = left }) next).pieces ≤ a + b
behind_fits ps None next a b first second = omega (arith, first)
behind_fits ps (Some choices) next a b first second = omega (arith, first, second choices, records_both ps (next choices).pieces)

repeated_fits : (n a : ℕ) (x : Expanding) → HasAtMost a x → HasAtMost (n * a) (repeated n x)
repeated_fits zero a x fits choices = omega arith
repeated_fits (suc n) a x fits choices = omega (arith, behind_fits (x choices).pieces (x choices).left (repeated n x) a (n * a) (fits choices) (repeated_fits n a x fits))

-- ---- lists of items

abbrev IsFit : Item → Type 0
IsFit i = HasAtMost (length_of_item i) (expansion_of_item i)

items_fit : (es : List (Proved IsFit)) → HasAtMost (length_of_body (items_of es)) (in_order (map expansion_of_item (items_of es)))
items_fit [] choices = omega arith
items_fit (e ∷ es) choices =
    let x : Expanding = expansion_of_item e.0 in
    behind_fits (x choices).pieces (x choices).left (in_order (map expansion_of_item (items_of es))) (length_of_item e.0) (length_of_body (items_of es)) (e.1 choices) (items_fit es)

block_fits : (times : ℕ) (es : List (Proved IsFit)) → HasAtMost (times * max 1 (length_of_body (items_of es))) (repeated times (in_order (map expansion_of_item (items_of es))))
block_fits times es =
    repeated_fits times (max 1 (length_of_body (items_of es))) (in_order (map expansion_of_item (items_of es)))
    (λ choices. omega (arith, items_fit es choices, right_most 1 (length_of_body (items_of es))))

-- ---- alternatives

abbrev longest : List (ℕ × Vec (Proved IsFit) Global) → ℕ
longest [] = 0
longest (w ∷ ws) = max (length_of_body (items_of w.1.items)) (longest ws)

longest_same : (g : ℕ × Vec Item Global → ℕ × Vec ℕ Global) (h : ℕ × Vec (Proved IsFit) Global → ℕ × Vec Item Global)
    → ((v : ℕ × Vec Item Global) → (g v).1.items ≡ map length_of_item v.1.items) → ((w : ℕ × Vec (Proved IsFit) Global) → (h w).1.items ≡ items_of w.1.items)
    → (ws : List (ℕ × Vec (Proved IsFit) Global)) → longest_of (map g (map h ws)) ≡ longest ws
longest_same g h lengths items [] = refl
longest_same g h lengths items (w ∷ ws) =
    ap (λ (ns : List ℕ). max (sum_of ns) (longest_of (map g (map h ws)))) (lengths (h w) ∙ ap (map length_of_item) (items w))
    ∙ ap (max (length_of_body (items_of w.1.items))) (longest_same g h lengths items ws)

taken_fits : (ws : List (ℕ × Vec (Proved IsFit) Global)) (n : ℕ) → HasAtMost (longest ws) (taken_from (slice_get (map layouts_of ws) n))
taken_fits [] n choices = omega arith
taken_fits (w ∷ ws) zero choices = omega (arith, items_fit w.1.items choices, left_most (length_of_body (items_of w.1.items)) (longest ws))
taken_fits (w ∷ ws) (suc n) choices = omega (arith, taken_fits ws n choices, right_most (length_of_body (items_of w.1.items)) (longest ws))

chosen_fits : (ws : List (ℕ × Vec (Proved IsFit) Global)) → HasAtMost (1 + longest ws) (chosen_from (map layouts_of ws))
chosen_fits ws [] = omega arith
chosen_fits ws (n ∷ choices) = omega (arith, taken_fits ws n choices)

choice_fits : (g : ℕ × Vec Item Global → ℕ × Vec ℕ Global) (k : ℕ × Vec Item Global → ℕ × Vec Expanding Global) (h : ℕ × Vec (Proved IsFit) Global → ℕ × Vec Item Global)
    → ((v : ℕ × Vec Item Global) → (g v).1.items ≡ map length_of_item v.1.items) → ((v : ℕ × Vec Item Global) → (k v).1.items ≡ map expansion_of_item v.1.items)
    → ((w : ℕ × Vec (Proved IsFit) Global) → (h w).1.items ≡ items_of w.1.items)
    → (ws : List (ℕ × Vec (Proved IsFit) Global)) → HasAtMost (1 + longest_of (map g (map h ws))) (chosen (map k (map h ws)))
choice_fits g k h lengths layouts items ws choices =
    omega (
      arith,
      chosen_fits ws choices,
      longest_same g h lengths items ws,
      ap (λ l. records_in l.pieces) (chosen_same k h layouts items ws choices),
    )

-- ---- any item

fits_by : (z : Item-F Item) → HasAtMost (length_in (map-Item _ _ length_of_item z)) (expanded_in (map-Item _ _ expansion_of_item z)) → IsFit (roll-Item z)
fits_by z fits choices =
    omega (
      arith,
      fits choices,
      fold-roll-Item ℕ length_in z,
      ap (λ (x : Expanding). records_in (x choices).pieces) (fold-roll-Item Expanding expanded_in z),
    )

step : (x : Item-F Item) (y : Item-F (Proved IsFit)) → map-Item _ _ (λ e. e.0) y ≡ x → IsFit (roll-Item x)
step x (layers.Leaf line wishes) is = subst (λ (z : Item-F Item). IsFit (roll-Item z)) is (fits_by (layers.Leaf line wishes) (λ choices. omega arith))
step x (layers.FetchFault line causes) is = subst (λ (z : Item-F Item). IsFit (roll-Item z)) is (fits_by (layers.FetchFault line causes) (λ choices. omega arith))
step x (layers.Label name) is = subst (λ (z : Item-F Item). IsFit (roll-Item z)) is (fits_by (layers.Label name) (λ choices. omega arith))
step x (layers.Seq body) is = subst (λ (z : Item-F Item). IsFit (roll-Item z)) is (fits_by _ (items_fit body.items))
step x (layers.Repeat times body) is = subst (λ (z : Item-F Item). IsFit (roll-Item z)) is (fits_by _ (block_fits times body.items))
step x (layers.Choose line ways) is = subst (λ (z : Item-F Item). IsFit (roll-Item z)) is (fits_by _ (choice_fits _ _ _ (λ v. refl) (λ v. refl) (λ w. refl) ways.items))

fit : (i : Item) → IsFit i
fit = ind-Item IsFit step

pub layouts_fit : (is : List Item) (choices : List ℕ) → records_in (expansion_of is choices).pieces ≤ length_of_body is
layouts_fit is choices = subst (λ (js : List Item). HasAtMost (length_of_body js) (expansion_of js)) (items_back fit is) (items_fit (proved fit is)) choices

-- ---- bodies whose number of records is left to no choice

pub record HasJust (n : ℕ) (x : Expanding) : Type 0 where
  pub records : (choices : List ℕ) → records_in (x choices).pieces ≡ n
  pub left : (choices : List ℕ) → (x choices).left ≡ Some choices

abbrev IsExact : Item → Type 0
IsExact i = (n : ℕ) → fixed_of_item i ≡ Some n → (length_of_item i ≡ n) × HasJust n (expansion_of_item i)

pub record IsSum (o p : Option ℕ) (n : ℕ) : Type 0 where
  pub first : ℕ
  pub second : ℕ
  pub first_is : o ≡ Some first
  pub second_is : p ≡ Some second
  pub sum : n ≡ first + second

is_sum : (o p : Option ℕ) (n : ℕ) → plus o p ≡ Some n → IsSum o p n
is_sum None p n is = absurd (cc is)
is_sum (Some a) None n is = absurd (cc is)
is_sum (Some a) (Some b) n is = record { first = a; second = b; first_is = refl; second_is = refl; sum = sym (same_Some (a + b) n is) }

behind_records : (l : Expanded) (next : Expanding) (choices : List ℕ) (a b : ℕ) → records_in l.pieces ≡ a → l.left ≡ Some choices → records_in (next choices).pieces ≡ b → records_in (behind l next).pieces ≡ a + b
behind_records l next choices a b first left second =
    ap (λ (o : Option (List ℕ)). records_in (behind (record { pieces = l.pieces; left = o }) next).pieces) left
    ∙ records_both l.pieces (next choices).pieces
    ∙ ap (λ (n : ℕ). n + records_in (next choices).pieces) first
    ∙ ap (λ (n : ℕ). a + n) second

behind_left : (l : Expanded) (next : Expanding) (choices : List ℕ) → l.left ≡ Some choices → (next choices).left ≡ Some choices → (behind l next).left ≡ Some choices
behind_left l next choices left second = ap (λ (o : Option (List ℕ)). (behind (record { pieces = l.pieces; left = o }) next).left) left ∙ second

repeated_exact : (n a : ℕ) (x : Expanding) → HasJust a x → HasJust (n * a) (repeated n x)
repeated_exact zero a x just = record { records = λ choices. omega arith; left = λ choices. refl }
repeated_exact (suc n) a x just =
    let rest : HasJust (n * a) (repeated n x) = repeated_exact n a x just in
    record {
      records = λ choices. omega (arith, behind_records (x choices) (repeated n x) choices a (n * a) (just.records choices) (just.left choices) (rest.records choices));
      left = λ choices. behind_left (x choices) (repeated n x) choices (just.left choices) (rest.left choices);
    }

items_exact : (es : List (Proved IsExact)) (n : ℕ) → fixed_of_body (items_of es) ≡ Some n → (length_of_body (items_of es) ≡ n) × HasJust n (in_order (map expansion_of_item (items_of es)))
items_exact [] n is =
    let zero_is : 0 ≡ n = same_Some 0 n is in
    (zero_is, subst (λ (m : ℕ). HasJust m (in_order [])) zero_is (record { records = λ choices. refl; left = λ choices. refl }))
items_exact (e ∷ es) n is =
    let x : Expanding = expansion_of_item e.0 in
    let y : Expanding = in_order (map expansion_of_item (items_of es)) in
    let parts : IsSum (fixed_of_item e.0) (fixed_of_body (items_of es)) n = is_sum (fixed_of_item e.0) (fixed_of_body (items_of es)) n is in
    let item = e.1 parts.first parts.first_is in
    let rest = items_exact es parts.second parts.second_is in (
      omega (arith, item.0, rest.0, parts.sum),
      subst (λ (m : ℕ). HasJust m (in_order (map expansion_of_item (items_of (e ∷ es))))) (sym parts.sum) (record {
        records = λ choices. behind_records (x choices) y choices parts.first parts.second (item.1.records choices) (item.1.left choices) (rest.1.records choices);
        left = λ choices. behind_left (x choices) y choices (item.1.left choices) (rest.1.left choices);
      }),
    )

-- a repeat, of which the body has a record
repeat_exact : (times : ℕ) (es : List (Proved IsExact)) (o : Option ℕ) → fixed_of_body (items_of es) ≡ o → (n : ℕ) → some_times times o ≡ Some n
    → (times * max 1 (length_of_body (items_of es)) ≡ n) × HasJust n (repeated times (in_order (map expansion_of_item (items_of es))))
repeat_exact times es None body n is = absurd (cc is)
repeat_exact times es (Some zero) body n is = absurd (cc is)
repeat_exact times es (Some (suc m)) body n is =
    let inner = items_exact es (suc m) body in
    let many : times * suc m ≡ n = same_Some (times * suc m) n is in (
      ap (λ (k : ℕ). times * max 1 k) inner.0 ∙ ap (λ (k : ℕ). times * k) (most_one m) ∙ many,
      subst (λ (k : ℕ). HasJust k (repeated times (in_order (map expansion_of_item (items_of es))))) many (repeated_exact times (suc m) (in_order (map expansion_of_item (items_of es))) inner.1),
    )

exact_by : (z : Item-F Item) → ((n : ℕ) → fixed_in (map-Item _ _ fixed_of_item z) ≡ Some n → (length_in (map-Item _ _ length_of_item z) ≡ n) × HasJust n (expanded_in (map-Item _ _ expansion_of_item z))) → IsExact (roll-Item z)
exact_by z exact n is =
    let inner = exact n (sym (fold-roll-Item (Option ℕ) fixed_in z) ∙ is) in (
      fold-roll-Item ℕ length_in z ∙ inner.0,
      subst (HasJust n) (sym (fold-roll-Item Expanding expanded_in z)) inner.1,
    )

one_exact : (p : Piece) → records_in (p ∷ []) ≡ 1 → (n : ℕ) → Some 1 ≡ Some n → (1 ≡ n) × HasJust n (one p)
one_exact p records n is =
    let one_is : 1 ≡ n = same_Some 1 n is in
    (one_is, record { records = λ choices. records ∙ one_is; left = λ choices. refl })

label_exact : (name n : ℕ) → Some 0 ≡ Some n → (0 ≡ n) × HasJust n (one (Label name))
label_exact name n is =
    let zero_is : 0 ≡ n = same_Some 0 n is in
    (zero_is, record { records = λ choices. zero_is; left = λ choices. refl })

exact_step : (x : Item-F Item) (y : Item-F (Proved IsExact)) → map-Item _ _ (λ e. e.0) y ≡ x → IsExact (roll-Item x)
exact_step x (layers.Leaf line wishes) is = subst (λ (z : Item-F Item). IsExact (roll-Item z)) is (exact_by (layers.Leaf line wishes) (one_exact (Leaf wishes.items) refl))
exact_step x (layers.FetchFault line causes) is = subst (λ (z : Item-F Item). IsExact (roll-Item z)) is (exact_by (layers.FetchFault line causes) (one_exact (FetchFault causes) refl))
exact_step x (layers.Label name) is = subst (λ (z : Item-F Item). IsExact (roll-Item z)) is (exact_by (layers.Label name) (label_exact name))
exact_step x (layers.Seq body) is = subst (λ (z : Item-F Item). IsExact (roll-Item z)) is (exact_by _ (items_exact body.items))
exact_step x (layers.Repeat times body) is = subst (λ (z : Item-F Item). IsExact (roll-Item z)) is (exact_by _ (repeat_exact times body.items (fixed_of_body (items_of body.items)) refl))
exact_step x (layers.Choose line ways) is = subst (λ (z : Item-F Item). IsExact (roll-Item z)) is (exact_by _ (λ n none. absurd (cc none)))

exact : (i : Item) → IsExact i
exact = ind-Item IsExact exact_step

pub fixed_exact : (is : List Item) (choices : List ℕ) (n : ℕ) → fixed_of_body is ≡ Some n → (length_of_body is ≡ n) × (records_in (expansion_of is choices).pieces ≡ n)
fixed_exact is choices n fixed =
    let all = subst (λ (js : List Item). (m : ℕ) → fixed_of_body js ≡ Some m → (length_of_body js ≡ m) × HasJust m (expansion_of js)) (items_back exact is) (items_exact (proved exact is)) n fixed in
    (all.0, all.1.records choices)
