-- The next item of a walk.
use Rattle.std.proofs.Common.{◌≡◌, ℕ, ◌+◌, true, List, ◌∷◌, ◌++◌, map, sym, ap, ◌∙◌, subst, append-nil}
use Rattle.std.specs.Prelude.{Vec}
use Rattle.std.specs.Global.{Global}
use Rattle.tpl_ast.specs.declared.template.Item.{Item}
use Rattle.tpl_ast.specs.declared.template.Item.TheViews as views
use Rattle.tpl_ast.specs.declared.template.Item.TheVariants as variants
use Rattle.tpl_ast.specs.declared.template.Wish.{Wish}
use Rattle.gen_search.specs.declared.draws.Tally.{Tally}
use Rattle.rand_pcg.specs.Pcg.{pcg32}
use Rattle.gen_search.specs.Search.{Rules, Outcome, IsLeaf, leaf, fault, Walks, label, seq, rep, choose, Tries, copies, draw_made, in_turn, of_hart}
use Rattle.tpl_ast.specs.Choices.{all_true, are_ways_fit, can_pick, is_fit}
use Rattle.gen_search.specs.Fit.{AreFit}
use Rattle.gen_search.specs.Steps.{steps_of, longest_steps}
use Rattle.gen_search.proofs.Blocks.{choose_steps}
use Rattle.gen_search.proofs.Fitting.{choose_fit, entered_fit, repeat_fit, seq_fit}
use Rattle.gen_search.proofs.Weights.{both_true}

-- what is left before an item is fit, and so are the item and what is left behind it
pub next_fit : (hart : ℕ) (item : Item) (before behind : List (ℕ × Item)) → before ≡ (hart, item) ∷ behind → AreFit before → (is_fit item ≡ true) × AreFit behind
next_fit hart item before behind is fit = subst AreFit is fit

pub seq_entered : (hart : ℕ) (item : Item) (body : Vec Item Global) (items : List Item) (before behind entered : List (ℕ × Item)) → before ≡ (hart, item) ∷ behind → item ≡ views.Seq body → items ≡ body.items
    → entered ≡ copies 1 (of_hart hart items) ++ behind → AreFit before → AreFit entered
seq_entered hart item body items before behind entered is sequence same enters fit =
    let f = next_fit hart item before behind is fit in
    let inner : all_true (map is_fit items) ≡ true = ap (λ (xs : List Item). all_true (map is_fit xs)) same ∙ sym (seq_fit body) ∙ ap is_fit (sym sequence) ∙ f.0 in
    entered_fit hart 1 items behind entered enters inner f.1

pub repeat_entered : (hart times : ℕ) (item : Item) (body : Vec Item Global) (items : List Item) (before behind entered : List (ℕ × Item)) → before ≡ (hart, item) ∷ behind → item ≡ views.Repeat times body → items ≡ body.items
    → entered ≡ copies times (of_hart hart items) ++ behind → AreFit before → AreFit entered
repeat_entered hart times item body items before behind entered is repeats same enters fit =
    let f = next_fit hart item before behind is fit in
    let inner : all_true (map is_fit items) ≡ true = ap (λ (xs : List Item). all_true (map is_fit xs)) same ∙ sym (repeat_fit times body) ∙ ap is_fit (sym repeats) ∙ f.0 in
    entered_fit hart times items behind entered enters inner f.1

pub choose_entered : (hart line : ℕ) (item : Item) (ways : Vec (ℕ × Vec Item Global) Global) (before behind : List (ℕ × Item)) → before ≡ (hart, item) ∷ behind → item ≡ views.Choose line ways → AreFit before
    → (can_pick ways.items ≡ true) × (are_ways_fit ways.items ≡ true)
choose_entered hart line item ways before behind is chooses fit =
    both_true (can_pick ways.items) (are_ways_fit ways.items) (sym (choose_fit line ways) ∙ ap is_fit (sym chooses) ∙ (next_fit hart item before behind is fit).0)

pub choice_steps : (line : ℕ) (item : Item) (ways : Vec (ℕ × Vec Item Global) Global) → item ≡ views.Choose line ways → steps_of item ≡ 3 + longest_steps ways.items
choice_steps line item ways chooses = ap steps_of chooses ∙ choose_steps line ways

module _ {W : Type 0} (rules : Rules W) (turns : ℕ) where
  pub seq_walks : (hart : ℕ) (item : Item) (body : Vec Item Global) (items : List Item) (before behind entered : List (ℕ × Item)) (whole : W) (t : Tally) (o : Outcome W) → before ≡ (hart, item) ∷ behind → item ≡ views.Seq body → items ≡ body.items
      → entered ≡ copies 1 (of_hart hart items) ++ behind → Walks rules turns entered whole t o → Walks rules turns before whole t o
  seq_walks hart item body items before behind entered whole t o is sequence same enters walks =
      let todo : entered ≡ of_hart hart body.items ++ behind = enters ∙ (λ i. append-nil (of_hart hart (same i)) i ++ behind) in
      let first : before ≡ (hart, views.Seq body) ∷ behind = is ∙ ap (λ (x : Item). (hart, x) ∷ behind) sequence in
      subst (λ (xs : List (ℕ × Item)). Walks rules turns xs whole t o) (sym first) (seq body (subst (λ (xs : List (ℕ × Item)). Walks rules turns xs whole t o) todo walks))

  pub repeat_walks : (hart times : ℕ) (item : Item) (body : Vec Item Global) (items : List Item) (before behind entered : List (ℕ × Item)) (whole : W) (t : Tally) (o : Outcome W) → before ≡ (hart, item) ∷ behind → item ≡ views.Repeat times body → items ≡ body.items
      → entered ≡ copies times (of_hart hart items) ++ behind → Walks rules turns entered whole t o → Walks rules turns before whole t o
  repeat_walks hart times item body items before behind entered whole t o is repeats same enters walks =
      let todo : entered ≡ copies times (of_hart hart body.items) ++ behind = enters ∙ ap (λ (xs : List Item). copies times (of_hart hart xs) ++ behind) same in
      let first : before ≡ (hart, views.Repeat times body) ∷ behind = is ∙ ap (λ (x : Item). (hart, x) ∷ behind) repeats in
      subst (λ (xs : List (ℕ × Item)). Walks rules turns xs whole t o) (sym first) (rep times body (subst (λ (xs : List (ℕ × Item)). Walks rules turns xs whole t o) todo walks))

  pub choose_walks : (hart line : ℕ) (item : Item) (ways : Vec (ℕ × Vec Item Global) Global) (list : List (ℕ × Vec Item Global)) (before behind : List (ℕ × Item)) (whole : W) (t : Tally) (o : Outcome W) → before ≡ (hart, item) ∷ behind → item ≡ views.Choose line ways → list ≡ ways.items
      → Tries rules turns hart (in_turn list (pcg32 t.draws).0) behind whole (draw_made t) o → Walks rules turns before whole t o
  choose_walks hart line item ways list before behind whole t o is chooses same tries =
      let first : before ≡ (hart, views.Choose line ways) ∷ behind = is ∙ ap (λ (x : Item). (hart, x) ∷ behind) chooses in
      subst (λ (xs : List (ℕ × Item)). Walks rules turns xs whole t o) (sym first)
      (choose line ways (subst (λ (ws : List (ℕ × Vec Item Global)). Tries rules turns hart (in_turn ws (pcg32 t.draws).0) behind whole (draw_made t) o) same tries))

  pub label_walks : (hart name : ℕ) (item : Item) (before behind : List (ℕ × Item)) (whole next : W) (t : Tally) (o : Outcome W) → before ≡ (hart, item) ∷ behind → item ≡ variants.Label name → next ≡ rules.label hart name whole
      → Walks rules turns behind next t o → Walks rules turns before whole t o
  label_walks hart name item before behind whole next t o is labels binds walks =
      let first : before ≡ (hart, variants.Label name) ∷ behind = is ∙ ap (λ (x : Item). (hart, x) ∷ behind) labels in
      subst (λ (xs : List (ℕ × Item)). Walks rules turns xs whole t o) (sym first) (label name (subst (λ (w : W). Walks rules turns behind w t o) binds walks))

pub is_a_leaf : (line : ℕ) (item : Item) (wishes : Vec Wish Global) → item ≡ variants.Leaf line wishes → IsLeaf item line
is_a_leaf line item wishes is = subst (λ (x : Item). IsLeaf x line) (sym is) (leaf line wishes)

pub is_a_fault : (line : ℕ) (item : Item) (causes : List ℕ) → item ≡ variants.FetchFault line causes → IsLeaf item line
is_a_fault line item causes is = subst (λ (x : Item). IsLeaf x line) (sym is) (fault line causes)
