-- The equations of lengths.
use Rattle.std.proofs.Common.{◌≡◌, ℕ, ◌+◌, ◌*◌, ◌<◌, ◌≤◌, zero, suc, max, List, [], ◌∷◌, map, length, get_or, refl, sym, ap, ◌∙◌, arith}
use Rattle.std.specs.Prelude.{Vec}
use Rattle.std.specs.Global.{Global}
use Rattle.tpl_ast.specs.declared.template.Item.{Item}
use Rattle.tpl_ast.specs.declared.template.Item.TheViews as views
use Rattle.tpl_ast.specs.declared.template.Item.TheOpen as layers
use Rattle.tpl_ast.specs.declared.template.Item.TheVariants as variants
use Rattle.tpl_ast.specs.declared.template.Item.TheFolds.{fold-roll-Item}
use Rattle.tpl_ast.specs.declared.template.Wish.{Wish}
use Rattle.tpl_ast.specs.Depths.{size_in, size_of_body, size_of_item, size_of_ways, ways_in}
use Rattle.tpl_ast.specs.Lengths.{length_in, length_of_body, length_of_item, longest_body, longest_of}

pub leaf_length : (line : ℕ) (wishes : Vec Wish Global) → length_of_item (variants.Leaf line wishes) ≡ 1
leaf_length line wishes = ap length_of_item (sym (variants.rolls-Leaf line wishes)) ∙ fold-roll-Item ℕ length_in (layers.Leaf line wishes)

pub fault_length : (line : ℕ) (causes : List ℕ) → length_of_item (variants.FetchFault line causes) ≡ 1
fault_length line causes = ap length_of_item (sym (variants.rolls-FetchFault line causes)) ∙ fold-roll-Item ℕ length_in (layers.FetchFault line causes)

pub label_length : (name : ℕ) → length_of_item (variants.Label name) ≡ 0
label_length name = ap length_of_item (sym (variants.rolls-Label name)) ∙ fold-roll-Item ℕ length_in (layers.Label name)

pub seq_length : (body : Vec Item Global) → length_of_item (views.Seq body) ≡ length_of_body body.items
seq_length body = ap length_of_item (sym (variants.rolls-Seq body)) ∙ fold-roll-Item ℕ length_in (layers.Seq body)

pub repeat_length : (times : ℕ) (body : Vec Item Global) → length_of_item (views.Repeat times body) ≡ times * max 1 (length_of_body body.items)
repeat_length times body = ap length_of_item (sym (variants.rolls-Repeat times body)) ∙ fold-roll-Item ℕ length_in (layers.Repeat times body)

longest_is : (g : ℕ × Vec Item Global → ℕ × Vec ℕ Global) → ((w : ℕ × Vec Item Global) → (g w).1.items ≡ map length_of_item w.1.items) → (ws : List (ℕ × Vec Item Global)) → longest_of (map g ws) ≡ longest_body ws
longest_is g inner [] = refl
longest_is g inner (w ∷ ws) = rw (inner w, longest_is g inner ws) refl

pub choose_length : (line : ℕ) (ways : Vec (ℕ × Vec Item Global) Global) → length_of_item (views.Choose line ways) ≡ 1 + longest_body ways.items
choose_length line ways =
    ap length_of_item (sym (variants.rolls-Choose line ways))
    ∙ fold-roll-Item ℕ length_in (layers.Choose line ways)
    ∙ ap (λ (n : ℕ). 1 + n) (longest_is _ (λ w. refl) ways.items)

-- ---- sizes, which fall at each step into a body

pub seq_size : (body : Vec Item Global) → size_of_item (views.Seq body) ≡ 1 + size_of_body body.items
seq_size body = ap size_of_item (sym (variants.rolls-Seq body)) ∙ fold-roll-Item ℕ size_in (layers.Seq body)

pub repeat_size : (times : ℕ) (body : Vec Item Global) → size_of_item (views.Repeat times body) ≡ 1 + size_of_body body.items
repeat_size times body = ap size_of_item (sym (variants.rolls-Repeat times body)) ∙ fold-roll-Item ℕ size_in (layers.Repeat times body)

sizes_are : (g : ℕ × Vec Item Global → ℕ × Vec ℕ Global) → ((w : ℕ × Vec Item Global) → (g w).1.items ≡ map size_of_item w.1.items) → (ws : List (ℕ × Vec Item Global)) → ways_in (map g ws) ≡ size_of_ways ws
sizes_are g inner [] = refl
sizes_are g inner (w ∷ ws) = rw (inner w, sizes_are g inner ws) refl

pub choose_size : (line : ℕ) (ways : Vec (ℕ × Vec Item Global) Global) → size_of_item (views.Choose line ways) ≡ 1 + size_of_ways ways.items
choose_size line ways =
    ap size_of_item (sym (variants.rolls-Choose line ways))
    ∙ fold-roll-Item ℕ size_in (layers.Choose line ways)
    ∙ ap (λ (n : ℕ). 1 + n) (sizes_are _ (λ w. refl) ways.items)

pub item_size : (items : List Item) (i : ℕ) (d : Item) → i < length items → size_of_item (get_or items i d) ≤ size_of_body items
item_size [] i d lt = absurd (omega (arith, lt))
item_size (x ∷ xs) zero d lt = omega arith
item_size (x ∷ xs) (suc i) d lt = omega (arith, item_size xs i d (omega (arith, lt)))

pub way_size : (ways : List (ℕ × Vec Item Global)) (i : ℕ) (d : ℕ × Vec Item Global) → i < length ways → size_of_body (get_or ways i d).1.items < size_of_ways ways
way_size [] i d lt = absurd (omega (arith, lt))
way_size (x ∷ xs) zero d lt = omega arith
way_size (x ∷ xs) (suc i) d lt = omega (arith, way_size xs i d (omega (arith, lt)))
