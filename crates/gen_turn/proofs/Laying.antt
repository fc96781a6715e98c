-- A walk that is finished, as the pieces of the text that it went through: what its items are laid out as by the choices that it took.
use Rattle.std.proofs.Common.{◌≡◌, ℕ, zero, suc, List, [], ◌∷◌, ◌++◌, Option, Some, None, refl, sym, ap, ◌∙◌}
use Rattle.std.specs.Prelude.{Vec}
use Rattle.std.specs.Global.{Global}
use Rattle.std.specs.List.{slice_get}
use Rattle.tpl_ast.specs.declared.template.Item.{Item}
use Rattle.tpl_ast.specs.declared.template.Item.TheVariants as items
use Rattle.tpl_ast.specs.declared.template.Item.TheViews as views
use Rattle.tpl_ast.specs.declared.template.Wish.{Wish}
use Rattle.tpl_ast.specs.Expansion.{Expanded, Expanding, Piece, behind, in_order, expansion_of, expansion_of_item, nothing, repeated}
use Rattle.tpl_ast.specs.Expansion as pieces
use Rattle.tpl_admit.specs.Internal.Walks.{taken_of}
use Rattle.tpl_admit.proofs.Expansions.{choose_layout, fault_layout, label_layout, leaf_layout, repeat_layout, seq_layout}
use Rattle.gen_search.specs.Search.{copies, of_hart}

-- ---- pieces with the harts that go through them

abbrev pub Tagged : Type 0
Tagged = ℕ × Piece

abbrev pub tagged : ℕ → List Piece → List Tagged
tagged k [] = []
tagged k (p ∷ ps) = (k, p) ∷ tagged k ps

pub record LaidOut : Type 0 where
  pub pieces : List Tagged
  pub left : Option (List ℕ)

abbrev pub all_tagged : ℕ → Expanded → LaidOut
all_tagged k l = record { pieces = tagged k l.pieces; left = l.left }

abbrev pub followed : LaidOut → (List ℕ → LaidOut) → LaidOut
followed l next = elim (l.left) [
  | None ↦ l
  | Some choices ↦ let n = next choices in record { pieces = l.pieces ++ n.pieces; left = n.left }
]

-- items with their harts are laid out one after another
abbrev pub laid_out : List (ℕ × Item) → List ℕ → LaidOut
laid_out [] choices = record { pieces = []; left = Some choices }
laid_out (x ∷ xs) choices = followed (all_tagged x.0 (expansion_of_item x.1 choices)) (laid_out xs)

-- ---- one after another

nothing_after : {A : Type 0} (xs : List A) → xs ++ [] ≡ xs
nothing_after [] = refl
nothing_after {A} (x ∷ xs) = ap (λ (l : List A). x ∷ l) (nothing_after xs)

associate : {A : Type 0} (xs ys zs : List A) → (xs ++ ys) ++ zs ≡ xs ++ (ys ++ zs)
associate [] ys zs = refl
associate {A} (x ∷ xs) ys zs = ap (λ (l : List A). x ∷ l) (associate xs ys zs)

tagged_append : (k : ℕ) (ps qs : List Piece) → tagged k (ps ++ qs) ≡ tagged k ps ++ tagged k qs
tagged_append k [] qs = refl
tagged_append k (p ∷ ps) qs = ap (λ (l : List Tagged). (k, p) ∷ l) (tagged_append k ps qs)

followed_twice : (l : LaidOut) (f g : List ℕ → LaidOut) → followed (followed l f) g ≡ followed l (λ choices. followed (f choices) g)
followed_twice l f g = go l.pieces l.left
  where
    inner : (ps qs : List Tagged) (o : Option (List ℕ)) → followed (record { pieces = ps ++ qs; left = o }) g ≡ (let m = followed (record { pieces = qs; left = o }) g in record { pieces = ps ++ m.pieces; left = m.left })
    inner ps qs None = refl
    inner ps qs (Some choices) = ap (λ (q : List Tagged). record { pieces = q; left = (g choices).left }) (associate ps qs (g choices).pieces)

    go : (ps : List Tagged) (o : Option (List ℕ)) → followed (followed (record { pieces = ps; left = o }) f) g ≡ followed (record { pieces = ps; left = o }) (λ choices. followed (f choices) g)
    go ps None = refl
    go ps (Some choices) = inner ps (f choices).pieces (f choices).left

nothing_before : (f : List ℕ → LaidOut) (choices : List ℕ) → followed (record { pieces = []; left = Some choices }) f ≡ f choices
nothing_before f choices = refl

nothing_behind : (l : LaidOut) → followed l (λ choices. record { pieces = []; left = Some choices }) ≡ l
nothing_behind l = go l.pieces l.left
  where
    go : (ps : List Tagged) (o : Option (List ℕ)) → followed (record { pieces = ps; left = o }) (λ choices. record { pieces = []; left = Some choices }) ≡ record { pieces = ps; left = o }
    go ps None = refl
    go ps (Some choices) = ap (λ (q : List Tagged). record { pieces = q; left = Some choices }) (nothing_after ps)

tagged_behind : (k : ℕ) (l : Expanded) (f : Expanding) → all_tagged k (behind l f) ≡ followed (all_tagged k l) (λ choices. all_tagged k (f choices))
tagged_behind k l f = go l.pieces l.left
  where
    go : (ps : List Piece) (o : Option (List ℕ)) → all_tagged k (behind (record { pieces = ps; left = o }) f) ≡ followed (all_tagged k (record { pieces = ps; left = o })) (λ choices. all_tagged k (f choices))
    go ps None = refl
    go ps (Some choices) = ap (λ (q : List Tagged). record { pieces = q; left = (f choices).left }) (tagged_append k ps (f choices).pieces)

-- what follows may be told in other words
followed_same : (l : LaidOut) (f g : List ℕ → LaidOut) → ((choices : List ℕ) → f choices ≡ g choices) → followed l f ≡ followed l g
followed_same l f g same = go l.pieces l.left
  where
    go : (ps : List Tagged) (o : Option (List ℕ)) → followed (record { pieces = ps; left = o }) f ≡ followed (record { pieces = ps; left = o }) g
    go ps None = refl
    go ps (Some choices) = ap (λ (n : LaidOut). record { pieces = ps ++ n.pieces; left = n.left }) (same choices)

pub laid_append : (xs ys : List (ℕ × Item)) (choices : List ℕ) → laid_out (xs ++ ys) choices ≡ followed (laid_out xs choices) (laid_out ys)
laid_append [] ys choices = sym (nothing_before (laid_out ys) choices)
laid_append (x ∷ xs) ys choices =
    followed_same (all_tagged x.0 (expansion_of_item x.1 choices)) (laid_out (xs ++ ys)) (λ left. followed (laid_out xs left) (laid_out ys)) (laid_append xs ys)
    ∙ sym (followed_twice (all_tagged x.0 (expansion_of_item x.1 choices)) (laid_out xs) (laid_out ys))

pub laid_body : (k : ℕ) (body : List Item) (choices : List ℕ) → laid_out (of_hart k body) choices ≡ all_tagged k (expansion_of body choices)
laid_body k [] choices = refl
laid_body k (i ∷ body) choices =
    followed_same (all_tagged k (expansion_of_item i choices)) (laid_out (of_hart k body)) (λ left. all_tagged k (expansion_of body left)) (laid_body k body)
    ∙ sym (tagged_behind k (expansion_of_item i choices) (expansion_of body))

laid_copies : (k n : ℕ) (body : List Item) (choices : List ℕ) → laid_out (copies n (of_hart k body)) choices ≡ all_tagged k (repeated n (expansion_of body) choices)
laid_copies k zero body choices = refl
laid_copies k (suc n) body choices =
    laid_append (of_hart k body) (copies n (of_hart k body)) choices
    ∙ ap (λ (l : LaidOut). followed l (laid_out (copies n (of_hart k body)))) (laid_body k body choices)
    ∙ followed_same (all_tagged k (expansion_of body choices)) (laid_out (copies n (of_hart k body))) (λ left. all_tagged k (repeated n (expansion_of body) left)) (laid_copies k n body)
    ∙ sym (tagged_behind k (expansion_of body choices) (repeated n (expansion_of body)))

-- ---- items in front of what is left

module _ (k : ℕ) (todo : List (ℕ × Item)) where
  pub laid_leaf : (line : ℕ) (ws : Vec Wish Global) (choices : List ℕ) → laid_out ((k, items.Leaf line ws) ∷ todo) choices ≡ followed (record { pieces = (k, pieces.Leaf ws.items) ∷ []; left = Some choices }) (laid_out todo)
  laid_leaf line ws choices = ap (λ (f : Expanding). followed (all_tagged k (f choices)) (laid_out todo)) (leaf_layout line ws)

  pub laid_fault : (line : ℕ) (causes : List ℕ) (choices : List ℕ) → laid_out ((k, items.FetchFault line causes) ∷ todo) choices ≡ followed (record { pieces = (k, pieces.FetchFault causes) ∷ []; left = Some choices }) (laid_out todo)
  laid_fault line causes choices = ap (λ (f : Expanding). followed (all_tagged k (f choices)) (laid_out todo)) (fault_layout line causes)

  pub laid_label : (name : ℕ) (choices : List ℕ) → laid_out ((k, items.Label name) ∷ todo) choices ≡ followed (record { pieces = (k, pieces.Label name) ∷ []; left = Some choices }) (laid_out todo)
  laid_label name choices = ap (λ (f : Expanding). followed (all_tagged k (f choices)) (laid_out todo)) (label_layout name)

  pub laid_seq : (body : Vec Item Global) (choices : List ℕ) → laid_out ((k, views.Seq body) ∷ todo) choices ≡ laid_out (of_hart k body.items ++ todo) choices
  laid_seq body choices =
      ap (λ (f : Expanding). followed (all_tagged k (f choices)) (laid_out todo)) (seq_layout body)
      ∙ ap (λ (l : LaidOut). followed l (laid_out todo)) (sym (laid_body k body.items choices))
      ∙ sym (laid_append (of_hart k body.items) todo choices)

  pub laid_repeat : (times : ℕ) (body : Vec Item Global) (choices : List ℕ) → laid_out ((k, views.Repeat times body) ∷ todo) choices ≡ laid_out (copies times (of_hart k body.items) ++ todo) choices
  laid_repeat times body choices =
      ap (λ (f : Expanding). followed (all_tagged k (f choices)) (laid_out todo)) (repeat_layout times body)
      ∙ ap (λ (l : LaidOut). followed l (laid_out todo)) (sym (laid_copies k times body.items choices))
      ∙ sym (laid_append (copies times (of_hart k body.items)) todo choices)

  pub laid_choice : (line : ℕ) (ways : Vec (ℕ × Vec Item Global) Global) (n : ℕ) (way : ℕ × Vec Item Global) (choices : List ℕ) → slice_get ways.items n ≡ Some way
      → laid_out ((k, views.Choose line ways) ∷ todo) (n ∷ choices) ≡ laid_out (of_hart k way.1.items ++ todo) choices
  laid_choice line ways n way choices is =
      ap (λ (f : Expanding). followed (all_tagged k (f (n ∷ choices))) (laid_out todo)) (choose_layout line ways)
      ∙ ap (λ (o : Option (ℕ × Vec Item Global)). followed (all_tagged k (taken_of o choices)) (laid_out todo)) is
      ∙ ap (λ (l : LaidOut). followed l (laid_out todo)) (sym (laid_body k way.1.items choices))
      ∙ sym (laid_append (of_hart k way.1.items) todo choices)

-- ---- alternatives by their numbers

-- an alternative that is tried is the one that its number names
abbrev pub IsWay : List (ℕ × Vec Item Global) → ℕ × Vec Item Global → Type 0
IsWay ways x = (way : ℕ × Vec Item Global) × (slice_get ways x.0 ≡ Some way) × (way.1 ≡ x.1)

abbrev pub AreWays : List (ℕ × Vec Item Global) → List (ℕ × Vec Item Global) → Type 0
AreWays ways [] = Unit {0}
AreWays ways (x ∷ xs) = IsWay ways x × AreWays ways xs
