-- How many records and choices a path has: as many as its text allows.
use Rattle.std.proofs.Common.{◌≡◌, ℕ, zero, suc, ◌+◌, ◌*◌, ◌≤◌, List, [], ◌∷◌, ◌++◌, length, max, Some, refl, ap, ◌∙◌, subst, arith}
use Rattle.std.specs.Prelude.{Vec}
use Rattle.std.specs.Global.{Global}
use Rattle.std.specs.List.{slice_get}
use Rattle.tpl_ast.specs.declared.template.HartDecl.{HartDecl}
use Rattle.tpl_ast.specs.declared.template.Item.{Item}
use Rattle.tpl_ast.specs.declared.template.Item.TheVariants as items
use Rattle.tpl_ast.specs.declared.template.Item.TheViews as views
use Rattle.tpl_ast.specs.declared.template.Wish.{Wish}
use Rattle.tpl_ast.specs.Expansion as pieces
use Rattle.tpl_ast.specs.Lengths.{length_of_body, length_of_harts, length_of_item, longest_body}
use Rattle.tpl_ast.proofs.Sums.{choose_length, fault_length, label_length, leaf_length, repeat_length, seq_length}
use Rattle.gen_search.specs.Search.{all_items, copies, of_hart}
use Rattle.gen_turn.proofs.Laying.{Tagged}

-- the records of pieces
abbrev pub records_of_pieces : List Tagged → ℕ
records_of_pieces [] = 0
records_of_pieces ((k, pieces.Leaf ws) ∷ ps) = 1 + records_of_pieces ps
records_of_pieces ((k, pieces.FetchFault causes) ∷ ps) = 1 + records_of_pieces ps
records_of_pieces ((k, pieces.Label n) ∷ ps) = records_of_pieces ps
records_of_pieces ((k, pieces.Stuck) ∷ ps) = records_of_pieces ps

-- the lengths of what is left to do
abbrev pub length_of_todo : List (ℕ × Item) → ℕ
length_of_todo [] = 0
length_of_todo (x ∷ xs) = length_of_item x.1 + length_of_todo xs

-- pieces, with the choices that led to them, are no more than this
abbrev pub IsWithin : List Tagged → List ℕ → ℕ → Type 0
IsWithin ps choices n = records_of_pieces ps + length choices ≤ n

todo_append : (xs ys : List (ℕ × Item)) → length_of_todo (xs ++ ys) ≡ length_of_todo xs + length_of_todo ys
todo_append [] ys = omega arith
todo_append (x ∷ xs) ys = let h = todo_append xs ys in omega (arith, h)

todo_body : (k : ℕ) (body : List Item) → length_of_todo (of_hart k body) ≡ length_of_body body
todo_body k [] = refl
todo_body k (i ∷ body) = ap (λ (n : ℕ). length_of_item i + n) (todo_body k body)

todo_copies : (k n : ℕ) (body : List Item) → length_of_todo (copies n (of_hart k body)) ≡ n * length_of_body body
todo_copies k zero body = omega arith
todo_copies k (suc n) body =
    todo_append (of_hart k body) (copies n (of_hart k body))
    ∙ ap (λ (m : ℕ). m + length_of_todo (copies n (of_hart k body))) (todo_body k body)
    ∙ ap (λ (m : ℕ). length_of_body body + m) (todo_copies k n body)
    ∙ next n (length_of_body body)
  where
    next : (n m : ℕ) → m + n * m ≡ suc n * m
    next n m = omega arith

more_times : (n m : ℕ) → n * m ≤ n * max 1 m
more_times zero m = omega arith
more_times (suc n) m = let h = more_times n m in let g : m ≤ max 1 m = omega arith in let a : suc n * m ≡ m + n * m = omega arith in let b : suc n * max 1 m ≡ max 1 m + n * max 1 m = omega arith in omega (arith, h, g, a, b)

longest_at : (ws : List (ℕ × Vec Item Global)) (n : ℕ) (way : ℕ × Vec Item Global) → slice_get ws n ≡ Some way → length_of_body way.1.items ≤ longest_body ws
longest_at [] n way is = absurd (cc is)
longest_at (w ∷ ws) zero way is = let same : w ≡ way = cc is in subst (λ (v : ℕ × Vec Item Global). length_of_body v.1.items ≤ longest_body (w ∷ ws)) same (omega arith)
longest_at (w ∷ ws) (suc n) way is = let h = longest_at ws n way is in omega (arith, h)

module _ (k : ℕ) (todo : List (ℕ × Item)) (ps : List Tagged) (choices : List ℕ) where
  pub leaf_within : (line : ℕ) (ws : Vec Wish Global) → IsWithin ps choices (length_of_todo todo) → IsWithin ((k, pieces.Leaf ws.items) ∷ ps) choices (length_of_todo ((k, items.Leaf line ws) ∷ todo))
  leaf_within line ws h = let one = leaf_length line ws in omega (arith, h, one)

  pub fault_within : (line : ℕ) (causes : List ℕ) → IsWithin ps choices (length_of_todo todo) → IsWithin ((k, pieces.FetchFault causes) ∷ ps) choices (length_of_todo ((k, items.FetchFault line causes) ∷ todo))
  fault_within line causes h = let one = fault_length line causes in omega (arith, h, one)

  pub label_within : (name : ℕ) → IsWithin ps choices (length_of_todo todo) → IsWithin ((k, pieces.Label name) ∷ ps) choices (length_of_todo ((k, items.Label name) ∷ todo))
  label_within name h = let none = label_length name in omega (arith, h, none)

  pub seq_within : (body : Vec Item Global) → IsWithin ps choices (length_of_todo (of_hart k body.items ++ todo)) → IsWithin ps choices (length_of_todo ((k, views.Seq body) ∷ todo))
  seq_within body h = let own = seq_length body in let all = todo_append (of_hart k body.items) todo in let b = todo_body k body.items in omega (arith, h, own, all, b)

  pub repeat_within : (times : ℕ) (body : Vec Item Global) → IsWithin ps choices (length_of_todo (copies times (of_hart k body.items) ++ todo)) → IsWithin ps choices (length_of_todo ((k, views.Repeat times body) ∷ todo))
  repeat_within times body h =
      let own = repeat_length times body in
      let all = todo_append (copies times (of_hart k body.items)) todo in
      let b = todo_copies k times body.items in
      let more = more_times times (length_of_body body.items) in
      within own all b more h
    where
      within : {a b c d e : ℕ} → a ≡ d → b ≡ c + length_of_todo todo → c ≡ e → e ≤ d → records_of_pieces ps + length choices ≤ b → records_of_pieces ps + length choices ≤ a + length_of_todo todo
      within own all b more h = omega (arith, own, all, b, more, h)

  pub choice_within : (line : ℕ) (ways : Vec (ℕ × Vec Item Global) Global) (n : ℕ) (way : ℕ × Vec Item Global) → slice_get ways.items n ≡ Some way → IsWithin ps choices (length_of_todo (of_hart k way.1.items ++ todo)) → IsWithin ps (n ∷ choices) (length_of_todo ((k, views.Choose line ways) ∷ todo))
  choice_within line ways n way is h =
      let own = choose_length line ways in
      let all = todo_append (of_hart k way.1.items) todo in
      let b = todo_body k way.1.items in
      let longest = longest_at ways.items n way is in
      omega (arith, h, own, all, b, longest)

pub harts_within : (k : ℕ) (hs : List HartDecl) → length_of_todo (all_items k hs) ≡ length_of_harts hs
harts_within k [] = refl
harts_within k (h ∷ hs) = todo_append (of_hart k h.body.items) (all_items (k + 1) hs) ∙ (λ i. todo_body k h.body.items i + harts_within (k + 1) hs i)
