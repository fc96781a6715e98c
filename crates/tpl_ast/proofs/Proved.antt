-- Items that come each with a proof, and how alternatives of them are laid out.
use Rattle.std.proofs.Common.{◌≡◌, ℕ, List, [], ◌∷◌, map, Option, Some, None, option_map, refl, sym, ap, ◌∙◌}
use Rattle.std.specs.Prelude.{Vec}
use Rattle.std.specs.Global.{Global}
use Rattle.std.specs.List.{slice_get}
use Rattle.std.proofs.lemmas.Option.{slice_get-map}
use Rattle.tpl_ast.specs.declared.template.Item.{Item}
use Rattle.tpl_ast.specs.Expansion.{Expanding, chosen, in_order, expansion_of_item, stuck, taken}

abbrev pub Proved : (Item → Type 0) → Type 0
Proved P = (i : Item) × P i

abbrev pub items_of : {P : Item → Type 0} → List (Proved P) → List Item
items_of es = map (λ e. e.0) es

abbrev pub proved : {P : Item → Type 0} → ((i : Item) → P i) → List Item → List (Proved P)
proved proof is = map (λ i. (i, proof i)) is

pub items_back : {P : Item → Type 0} (proof : (i : Item) → P i) (is : List Item) → items_of (proved proof is) ≡ is
items_back proof [] = refl
items_back proof (i ∷ is) = ap (λ (js : List Item). i ∷ js) (items_back proof is)

-- ---- alternatives

abbrev pub layouts_of : {P : Item → Type 0} → ℕ × Vec (Proved P) Global → List Expanding
layouts_of w = map expansion_of_item (items_of w.1.items)

abbrev pub taken_from : Option (List Expanding) → Expanding
taken_from None choices = stuck
taken_from (Some xs) choices = in_order xs choices

abbrev pub chosen_from : List (List Expanding) → Expanding
chosen_from ways [] = stuck
chosen_from ways (n ∷ choices) = taken_from (slice_get ways n) choices

taken_same : {P : Item → Type 0} (g : ℕ × Vec Item Global → ℕ × Vec Expanding Global) (h : ℕ × Vec (Proved P) Global → ℕ × Vec Item Global)
    → ((v : ℕ × Vec Item Global) → (g v).1.items ≡ map expansion_of_item v.1.items) → ((w : ℕ × Vec (Proved P) Global) → (h w).1.items ≡ items_of w.1.items)
    → (o : Option (ℕ × Vec (Proved P) Global)) (choices : List ℕ) → taken (option_map g (option_map h o)) choices ≡ taken_from (option_map layouts_of o) choices
taken_same g h layouts items None choices = refl
taken_same g h layouts items (Some w) choices = ap (λ (xs : List Expanding). in_order xs choices) (layouts (h w) ∙ ap (map expansion_of_item) (items w))

pub chosen_same : {P : Item → Type 0} (g : ℕ × Vec Item Global → ℕ × Vec Expanding Global) (h : ℕ × Vec (Proved P) Global → ℕ × Vec Item Global)
    → ((v : ℕ × Vec Item Global) → (g v).1.items ≡ map expansion_of_item v.1.items) → ((w : ℕ × Vec (Proved P) Global) → (h w).1.items ≡ items_of w.1.items)
    → (ws : List (ℕ × Vec (Proved P) Global)) (choices : List ℕ) → chosen (map g (map h ws)) choices ≡ chosen_from (map layouts_of ws) choices
chosen_same g h layouts items ws [] = refl
chosen_same g h layouts items ws (n ∷ choices) =
    ap (λ (o : Option (ℕ × Vec Expanding Global)). taken o choices) (slice_get-map g (map h ws) n ∙ ap (option_map g) (slice_get-map h ws n))
    ∙ taken_same g h layouts items (slice_get ws n) choices
    ∙ ap (λ (o : Option (List Expanding)). taken_from o choices) (sym (slice_get-map layouts_of ws n))
