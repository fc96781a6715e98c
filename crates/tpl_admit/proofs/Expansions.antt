-- The expansions of items.
use Rattle.std.proofs.Common.{◌≡◌, ℕ, List, [], ◌∷◌, ◌++◌, ◌<◌, append_assoc, subst, map, Option, Some, None, option_map, refl, sym, ap, ◌∙◌}
use Rattle.std.specs.Prelude.{Vec}
use Rattle.std.specs.Global.{Global}
use Rattle.std.specs.List.{slice_get}
use Rattle.std.proofs.Math.Path.{fun_ext}
use Rattle.std.proofs.lemmas.List.{map-append}
use Rattle.std.proofs.lemmas.Option.{get_or_from_slice_get, slice_get-map, slice_get_within}
use Rattle.tpl_ast.specs.declared.template.Item.{Item}
use Rattle.tpl_ast.specs.declared.template.Item.TheViews as views
use Rattle.tpl_ast.specs.declared.template.Item.TheOpen as layers
use Rattle.tpl_ast.specs.declared.template.Item.TheVariants as variants
use Rattle.tpl_ast.specs.declared.template.Item.TheFolds.{fold-roll-Item}
use Rattle.tpl_ast.specs.declared.template.Wish.{Wish}
use Rattle.tpl_ast.specs.Depths.{size_of_body, size_of_ways}
use Rattle.tpl_ast.proofs.Sums.{way_size}
use Rattle.tpl_ast.specs.Expansion.{Expanding, Piece, behind, Leaf, FetchFault, Label, chosen, in_order, taken, expanded_in, expansion_of, expansion_of_item, one, repeated}
use Rattle.tpl_admit.specs.declared.admission.Unmet.{Unmet}
use Rattle.tpl_admit.specs.Admitting.{Context, Failure, Stand, failures_at, failures_in, left_over, least_among, lesser, stand_after, at_hart}
use Rattle.tpl_admit.specs.Internal.Walks.{Walked, chosen_of, noted, passed, piece_failures, stands_after, taken_of, through}

pub leaf_layout : (line : ℕ) (wishes : Vec Wish Global) → expansion_of_item (variants.Leaf line wishes) ≡ one (Leaf wishes.items)
leaf_layout line wishes = ap expansion_of_item (sym (variants.rolls-Leaf line wishes)) ∙ fold-roll-Item Expanding expanded_in (layers.Leaf line wishes)

pub fault_layout : (line : ℕ) (causes : List ℕ) → expansion_of_item (variants.FetchFault line causes) ≡ one (FetchFault causes)
fault_layout line causes = ap expansion_of_item (sym (variants.rolls-FetchFault line causes)) ∙ fold-roll-Item Expanding expanded_in (layers.FetchFault line causes)

pub label_layout : (name : ℕ) → expansion_of_item (variants.Label name) ≡ one (Label name)
label_layout name = ap expansion_of_item (sym (variants.rolls-Label name)) ∙ fold-roll-Item Expanding expanded_in (layers.Label name)

pub seq_layout : (body : Vec Item Global) → expansion_of_item (views.Seq body) ≡ expansion_of body.items
seq_layout body = ap expansion_of_item (sym (variants.rolls-Seq body)) ∙ fold-roll-Item Expanding expanded_in (layers.Seq body)

pub repeat_layout : (times : ℕ) (body : Vec Item Global) → expansion_of_item (views.Repeat times body) ≡ repeated times (expansion_of body.items)
repeat_layout times body = ap expansion_of_item (sym (variants.rolls-Repeat times body)) ∙ fold-roll-Item Expanding expanded_in (layers.Repeat times body)

taken_is : (g : ℕ × Vec Item Global → ℕ × Vec Expanding Global) → ((w : ℕ × Vec Item Global) → (g w).1.items ≡ map expansion_of_item w.1.items) → (o : Option (ℕ × Vec Item Global)) (choices : List ℕ) → taken (option_map g o) choices ≡ taken_of o choices
taken_is g inner None choices = refl
taken_is g inner (Some w) choices = ap (λ (xs : List Expanding). in_order xs choices) (inner w)

taken_are : (g : ℕ × Vec Item Global → ℕ × Vec Expanding Global) → ((w : ℕ × Vec Item Global) → (g w).1.items ≡ map expansion_of_item w.1.items) → (ws : List (ℕ × Vec Item Global)) (choices : List ℕ) → chosen (map g ws) choices ≡ chosen_of ws choices
taken_are g inner ws [] = refl
taken_are g inner ws (n ∷ choices) = ap (λ (o : Option (ℕ × Vec Expanding Global)). taken o choices) (slice_get-map g ws n) ∙ taken_is g inner (slice_get ws n) choices

pub choose_layout : (line : ℕ) (ways : Vec (ℕ × Vec Item Global) Global) → expansion_of_item (views.Choose line ways) ≡ chosen_of ways.items
choose_layout line ways =
    ap expansion_of_item (sym (variants.rolls-Choose line ways))
    ∙ fold-roll-Item Expanding expanded_in (layers.Choose line ways)
    ∙ fun_ext (λ choices. taken_are _ (λ w. refl) ways.items choices)

-- ---- walks through expansions

pub least_append : (xs ys : List Unmet) (least : Option Unmet) → least_among (xs ++ ys) least ≡ least_among ys (least_among xs least)
least_append [] ys least = refl
least_append (x ∷ xs) ys least = least_append xs ys (lesser least x)

pub noted_append : (c : Context) (xs ys : List Failure) (least : Option Unmet) → noted c (xs ++ ys) least ≡ noted c ys (noted c xs least)
noted_append c xs ys least = ap (λ (us : List Unmet). least_among us least) (map-append (at_hart c.hart) xs ys) ∙ least_append (map (at_hart c.hart) xs) (map (at_hart c.hart) ys) least

pub both_noted : (c : Context) (f : ℕ → Failure) (xs ys : List ℕ) (least : Option Unmet) → noted c (map f (xs ++ ys)) least ≡ noted c (map f ys) (noted c (map f xs) least)
both_noted c f xs ys least = ap (λ (fs : List Failure). noted c fs least) (map-append f xs ys) ∙ noted_append c (map f xs) (map f ys) least

stands_append : (ps qs : List Piece) (s : Stand) → stands_after (ps ++ qs) s ≡ stands_after qs (stands_after ps s)
stands_append [] qs s = refl
stands_append (p ∷ ps) qs s = stands_append ps qs (stand_after p s)

failures_append : (c : Context) (ps qs : List Piece) (s : Stand) → piece_failures c (ps ++ qs) s ≡ piece_failures c ps s ++ piece_failures c qs (stands_after ps s)
failures_append c [] qs s = refl
failures_append c (p ∷ ps) qs s = ap (λ (fs : List Failure). failures_at c p s ++ fs) (failures_append c ps qs (stand_after p s)) ∙ sym (append_assoc (failures_at c p s) (piece_failures c ps (stand_after p s)) _)

passed_parts : (c : Context) (ps : List Piece) (left : Option (List ℕ)) (next : Expanding) (w : Walked) → passed c (behind (record { pieces = ps; left = left }) next) w ≡ through c next (passed c (record { pieces = ps; left = left }) w)
passed_parts c ps None next w = refl
passed_parts c ps (Some choices) next w =
    let qs = (next choices).pieces in
    let at = stands_append ps qs w.at in
    let least = ap (λ (fs : List Failure). noted c fs w.least) (failures_append c ps qs w.at) ∙ noted_append c (piece_failures c ps w.at) (piece_failures c qs (stands_after ps w.at)) w.least in
    λ i. record { at = at i; least = least i; left = (next choices).left }

through_parts : (c : Context) (x y : Expanding) (at : Stand) (least : Option Unmet) (left : Option (List ℕ)) → through c (λ choices. behind (x choices) y) (record { at = at; least = least; left = left }) ≡ through c y (through c x (record { at = at; least = least; left = left }))
through_parts c x y at least None = refl
through_parts c x y at least (Some choices) = passed_parts c (x choices).pieces (x choices).left y (record { at = at; least = least; left = Some choices })

pub through_behind : (c : Context) (x y : Expanding) (w : Walked) → through c (λ choices. behind (x choices) y) w ≡ through c y (through c x w)
through_behind c x y w = through_parts c x y w.at w.least w.left

-- an alternative is smaller than its choice
pub smaller_way : (ways : List (ℕ × Vec Item Global)) (n : ℕ) (way : ℕ × Vec Item Global) → slice_get ways n ≡ Some way → size_of_body way.1.items < size_of_ways ways
smaller_way ways n way is =
    subst (λ (w : ℕ × Vec Item Global). size_of_body w.1.items < size_of_ways ways) (get_or_from_slice_get ways n way way is) (way_size ways n way (slice_get_within ways n way is))

-- ---- harts

failures_split : (c : Context) (ps : List Piece) (s : Stand) → failures_in c ps s ≡ piece_failures c ps s ++ left_over (stands_after ps s) (stands_after ps s).records
failures_split c [] s = refl
failures_split c (p ∷ ps) s = ap (λ (fs : List Failure). failures_at c p s ++ fs) (failures_split c ps (stand_after p s)) ∙ sym (append_assoc (failures_at c p s) (piece_failures c ps (stand_after p s)) _)

-- the failures of a hart: its start, its pieces, and a record that is left over
pub three_noted : (c : Context) (start : List Failure) (ps : List Piece) (s : Stand) (least : Option Unmet)
    → noted c (start ++ failures_in c ps s) least ≡ noted c (left_over (stands_after ps s) (stands_after ps s).records) (noted c (piece_failures c ps s) (noted c start least))
three_noted c start ps s least =
    noted_append c start (failures_in c ps s) least
    ∙ ap (λ (fs : List Failure). noted c fs (noted c start least)) (failures_split c ps s)
    ∙ noted_append c (piece_failures c ps s) (left_over (stands_after ps s) (stands_after ps s).records) (noted c start least)
