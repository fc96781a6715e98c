-- Places, and what is left at them.
use Rattle.std.proofs.Common.{◌≡◌, ℕ, zero, suc, ◌+◌, ◌-◌, ◌*◌, ◌<◌, ◌≤◌, List, [], ◌∷◌, ◌++◌, map, length, get_or, take, drop, length-drop, refl, sym, ap, ◌∙◌, append_assoc, append-nil, arith}
use Rattle.std.specs.Prelude.{Vec}
use Rattle.std.proofs.lemmas.List.{drop_more, take_all}
use Rattle.std.specs.Global.{Global}
use Rattle.tpl_ast.specs.declared.template.Item.{Item}
use Rattle.tpl_ast.specs.declared.template.Item.TheViews as views
use Rattle.tpl_ast.specs.declared.template.Item.TheOpen as layers
use Rattle.tpl_ast.specs.declared.template.Item.TheVariants as variants
use Rattle.tpl_ast.specs.declared.template.Item.TheFolds.{fold-roll-Item}
use Rattle.tpl_ast.specs.declared.template.Wish.{Wish}
use Rattle.tpl_ast.specs.Lengths.{longest_of}
use Rattle.gen_search.specs.declared.place.Block.{Block}
use Rattle.gen_search.specs.Search.{copies, of_hart}
use Rattle.gen_search.specs.Steps.{steps_in, steps_of, steps_of_body, longest_steps}
use Rattle.gen_search.specs.Places.{laid_block, laid_blocks, steps_of_block, steps_of_blocks}

pub blocks_last : (hart : ℕ) (bs : List Block) (b : Block) → laid_blocks hart (bs ++ (b ∷ [])) ≡ laid_block hart b ++ laid_blocks hart bs
blocks_last hart [] b = sym (append-nil (laid_block hart b))
blocks_last hart (c ∷ bs) b = ap (λ (xs : List (ℕ × Item)). xs ++ laid_block hart c) (blocks_last hart bs b) ∙ append_assoc (laid_block hart b) (laid_blocks hart bs) (laid_block hart c)

pub steps_last : (bs : List Block) (b : Block) → steps_of_blocks (bs ++ (b ∷ [])) ≡ steps_of_block b + steps_of_blocks bs
steps_last [] b = refl
steps_last (c ∷ bs) b = omega (arith, steps_last bs b)

-- the blocks of a hart with one more, before what comes after them
pub one_more_block : (hart : ℕ) (bs old : List Block) (b : Block) (after : List (ℕ × Item)) → bs ≡ old ++ (b ∷ []) → laid_blocks hart bs ++ after ≡ laid_block hart b ++ (laid_blocks hart old ++ after)
one_more_block hart bs old b after is =
    ap (λ (xs : List Block). laid_blocks hart xs ++ after) is
    ∙ ap (λ (xs : List (ℕ × Item)). xs ++ after) (blocks_last hart old b)
    ∙ append_assoc (laid_block hart b) (laid_blocks hart old) after

pub one_more_step : (bs old : List Block) (b : Block) → bs ≡ old ++ (b ∷ []) → steps_of_blocks bs ≡ steps_of_block b + steps_of_blocks old
one_more_step bs old b is = ap steps_of_blocks is ∙ steps_last old b

-- ---- steps

pub leaf_steps : (line : ℕ) (wishes : Vec Wish Global) → steps_of (variants.Leaf line wishes) ≡ 1
leaf_steps line wishes = ap steps_of (sym (variants.rolls-Leaf line wishes)) ∙ fold-roll-Item ℕ steps_in (layers.Leaf line wishes)

pub fault_steps : (line : ℕ) (causes : List ℕ) → steps_of (variants.FetchFault line causes) ≡ 1
fault_steps line causes = ap steps_of (sym (variants.rolls-FetchFault line causes)) ∙ fold-roll-Item ℕ steps_in (layers.FetchFault line causes)

pub label_steps : (name : ℕ) → steps_of (variants.Label name) ≡ 1
label_steps name = ap steps_of (sym (variants.rolls-Label name)) ∙ fold-roll-Item ℕ steps_in (layers.Label name)

pub seq_steps : (body : Vec Item Global) → steps_of (views.Seq body) ≡ 3 + steps_of_body body.items
seq_steps body = ap steps_of (sym (variants.rolls-Seq body)) ∙ fold-roll-Item ℕ steps_in (layers.Seq body)

pub repeat_steps : (times : ℕ) (body : Vec Item Global) → steps_of (views.Repeat times body) ≡ 2 + times * (1 + steps_of_body body.items)
repeat_steps times body = ap steps_of (sym (variants.rolls-Repeat times body)) ∙ fold-roll-Item ℕ steps_in (layers.Repeat times body)

longest_is : (g : ℕ × Vec Item Global → ℕ × Vec ℕ Global) → ((w : ℕ × Vec Item Global) → (g w).1.items ≡ map steps_of w.1.items) → (ws : List (ℕ × Vec Item Global)) → longest_of (map g ws) ≡ longest_steps ws
longest_is g inner [] = refl
longest_is g inner (w ∷ ws) = rw (inner w, longest_is g inner ws) refl

pub choose_steps : (line : ℕ) (ways : Vec (ℕ × Vec Item Global) Global) → steps_of (views.Choose line ways) ≡ 3 + longest_steps ways.items
choose_steps line ways =
    ap steps_of (sym (variants.rolls-Choose line ways))
    ∙ fold-roll-Item ℕ steps_in (layers.Choose line ways)
    ∙ ap (λ (n : ℕ). 3 + n) (longest_is _ (λ w. refl) ways.items)

pub way_steps : (ways : List (ℕ × Vec Item Global)) (i : ℕ) (d : ℕ × Vec Item Global) → i < length ways → steps_of_body (get_or ways i d).1.items ≤ longest_steps ways
way_steps [] i d lt = absurd (omega (arith, lt))
way_steps (x ∷ xs) zero d lt = omega arith
way_steps (x ∷ xs) (suc i) d lt = omega (arith, way_steps xs i d (omega (arith, lt)))

-- ---- the next item

pub no_items : {A : Type 0} (xs : List A) → length xs < 1 → xs ≡ []
no_items [] lt = refl
no_items (x ∷ xs) lt = absurd (omega (arith, lt))

pub first_item : {A : Type 0} (xs : List A) (x : A) → 0 < length xs → x ≡ get_or xs 0 x → xs ≡ x ∷ take (length xs - 1) (drop 1 xs)
first_item {A = A} xs x lt is =
    let short : length (drop 1 xs) ≤ length xs - 1 = omega (arith, length-drop 1 xs) in
    drop_more xs 0 x lt ∙ ap (λ (y : A). y ∷ drop 1 xs) (sym is) ∙ ap (λ (ys : List A). x ∷ ys) (sym (take_all (length xs - 1) (drop 1 xs) short))

more_times : (n steps : ℕ) → 1 + steps + n * (1 + steps) < 1 + 0 + (n + 1) * (1 + steps)
more_times n steps = omega arith

-- a block whose items are gone through comes once more
pub again_laid : (hart : ℕ) (bs new old : List Block) (b : Block) (after : List (ℕ × Item)) → bs ≡ old ++ (b ∷ []) → new ≡ old ++ (record { items = b.body; again = b.again - 1; body = b.body } ∷ [])
    → length b.items.now < 1 → 0 < b.again → laid_blocks hart new ++ after ≡ laid_blocks hart bs ++ after
again_laid hart bs new old b after is made none some =
    let body : List (ℕ × Item) = of_hart hart b.body.now in
    let e : b.again ≡ suc (b.again - 1) = omega arith in
    let same : laid_block hart b ≡ body ++ copies (b.again - 1) body = ap (λ (xs : List Item). of_hart hart xs ++ copies b.again body) (no_items b.items.now none) ∙ ap (λ (n : ℕ). copies n body) e in
    one_more_block hart new old (record { items = b.body; again = b.again - 1; body = b.body }) after made
    ∙ ap (λ (xs : List (ℕ × Item)). xs ++ (laid_blocks hart old ++ after)) (sym same)
    ∙ sym (one_more_block hart bs old b after is)

pub again_steps : (bs new old : List Block) (b : Block) → bs ≡ old ++ (b ∷ []) → new ≡ old ++ (record { items = b.body; again = b.again - 1; body = b.body } ∷ [])
    → length b.items.now < 1 → 0 < b.again → steps_of_blocks new < steps_of_blocks bs
again_steps bs new old b is made none some =
    let before : steps_of_blocks bs ≡ steps_of_block b + steps_of_blocks old = one_more_step bs old b is in
    let behind : steps_of_blocks new ≡ 1 + steps_of_body b.body.now + (b.again - 1) * (1 + steps_of_body b.body.now) + steps_of_blocks old = one_more_step new old (record { items = b.body; again = b.again - 1; body = b.body }) made in
    let e : b.again ≡ (b.again - 1) + 1 = omega arith in
    let empty : steps_of_block b ≡ 1 + 0 + ((b.again - 1) + 1) * (1 + steps_of_body b.body.now) =
    ap (λ (xs : List Item). 1 + steps_of_body xs + b.again * (1 + steps_of_body b.body.now)) (no_items b.items.now none) ∙ ap (λ (n : ℕ). 1 + 0 + n * (1 + steps_of_body b.body.now)) e in
    let more = more_times (b.again - 1) (steps_of_body b.body.now) in
    omega (arith, before, behind, empty, more)

-- a block that is gone through
pub done_laid : (hart : ℕ) (bs old : List Block) (b : Block) (after : List (ℕ × Item)) → bs ≡ old ++ (b ∷ []) → length b.items.now < 1 → b.again ≤ 0 → laid_blocks hart old ++ after ≡ laid_blocks hart bs ++ after
done_laid hart bs old b after is none over =
    let body : List (ℕ × Item) = of_hart hart b.body.now in
    let e : b.again ≡ 0 = omega arith in
    let same : laid_block hart b ≡ [] = ap (λ (xs : List Item). of_hart hart xs ++ copies b.again body) (no_items b.items.now none) ∙ ap (λ (n : ℕ). copies n body) e in
    sym (one_more_block hart bs old b after is ∙ ap (λ (xs : List (ℕ × Item)). xs ++ (laid_blocks hart old ++ after)) same)

pub done_steps : (bs old : List Block) (b : Block) → bs ≡ old ++ (b ∷ []) → steps_of_blocks old < steps_of_blocks bs
done_steps bs old b is = let e = one_more_step bs old b is in omega (arith, e)

-- the next item of the innermost block
pub next_laid : (hart : ℕ) (bs new old : List Block) (b c : Block) (item : Item) (after : List (ℕ × Item)) → bs ≡ old ++ (b ∷ []) → new ≡ old ++ (c ∷ [])
    → b.items.now ≡ item ∷ c.items.now → c.again ≡ b.again → c.body ≡ b.body → laid_blocks hart bs ++ after ≡ (hart, item) ∷ (laid_blocks hart new ++ after)
next_laid hart bs new old b c item after is made first again body =
    one_more_block hart bs old b after is
    ∙ ap (λ (xs : List (ℕ × Item)). xs ++ (laid_blocks hart old ++ after)) (λ i. of_hart hart (first i) ++ copies (sym again i) (of_hart hart (sym body i).now))
    ∙ ap (λ (xs : List (ℕ × Item)). (hart, item) ∷ xs) (sym (one_more_block hart new old c after made))

pub next_steps : (bs new old : List Block) (b c : Block) (item : Item) → bs ≡ old ++ (b ∷ []) → new ≡ old ++ (c ∷ [])
    → b.items.now ≡ item ∷ c.items.now → c.again ≡ b.again → c.body ≡ b.body → steps_of item + steps_of_blocks new ≡ steps_of_blocks bs
next_steps bs new old b c item is made first again body =
    let before : steps_of_blocks bs ≡ steps_of_block b + steps_of_blocks old = one_more_step bs old b is in
    let behind : steps_of_blocks new ≡ steps_of_block c + steps_of_blocks old = one_more_step new old c made in
    let same : steps_of_block b ≡ 1 + (steps_of item + steps_of_body c.items.now) + c.again * (1 + steps_of_body c.body.now) = (λ i. 1 + steps_of_body (first i) + sym again i * (1 + steps_of_body (sym body i).now)) in
    omega (arith, before, behind, same)
