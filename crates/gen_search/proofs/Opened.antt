-- Walks by the item that comes first.
use Rattle.std.proofs.Common.{◌≡◌, ℕ, ◌<◌, ◌≤◌, List, [], ◌∷◌, ◌++◌, refl, sym, ap, ◌∙◌, subst}
use Rattle.std.specs.Prelude.{Vec}
use Rattle.std.specs.Global.{Global}
use Rattle.rand_pcg.specs.Pcg.{pcg32}
use Rattle.tpl_ast.specs.declared.template.Item.{Item}
use Rattle.tpl_ast.specs.declared.template.Item.TheOpen.{Item-F}
use Rattle.tpl_ast.specs.declared.template.Item.TheOpen as layers
use Rattle.tpl_ast.specs.declared.template.Item.TheViews.{out-Item, out-roll-Item}
use Rattle.tpl_ast.specs.declared.template.Item.TheViews as views
use Rattle.tpl_ast.specs.declared.template.Item.TheVariants as variants
use Rattle.tpl_ast.specs.declared.template.Wish.{Wish}
use Rattle.gen_search.specs.declared.draws.Tally.{Tally}
use Rattle.gen_search.specs.Draws.{words}
use Rattle.gen_search.specs.Search.{Rules, Taken, NoneFits, Spent, Outcome, Finished, Dead, GaveUp, IsLeaf, leaf, fault, Walks, finished, gives_up, taken, unfit, too_large, label, seq, rep, choose, Tries, copies, draw_made, in_turn, nothing_fitted, of_hart, turn_made, was_spent}

out_leaf : (line : ℕ) (wishes : Vec Wish Global) → out-Item (variants.Leaf line wishes) ≡ layers.Leaf line wishes
out_leaf line wishes = ap out-Item (sym (variants.rolls-Leaf line wishes)) ∙ out-roll-Item (layers.Leaf line wishes)

out_fault : (line : ℕ) (causes : List ℕ) → out-Item (variants.FetchFault line causes) ≡ layers.FetchFault line causes
out_fault line causes = ap out-Item (sym (variants.rolls-FetchFault line causes)) ∙ out-roll-Item (layers.FetchFault line causes)

out_label : (name : ℕ) → out-Item (variants.Label name) ≡ layers.Label name
out_label name = ap out-Item (sym (variants.rolls-Label name)) ∙ out-roll-Item (layers.Label name)

out_seq : (body : Vec Item Global) → out-Item (views.Seq body) ≡ layers.Seq body
out_seq body = ap out-Item (sym (variants.rolls-Seq body)) ∙ out-roll-Item (layers.Seq body)

out_repeat : (times : ℕ) (body : Vec Item Global) → out-Item (views.Repeat times body) ≡ layers.Repeat times body
out_repeat times body = ap out-Item (sym (variants.rolls-Repeat times body)) ∙ out-roll-Item (layers.Repeat times body)

out_choose : (line : ℕ) (ways : Vec (ℕ × Vec Item Global) Global) → out-Item (views.Choose line ways) ≡ layers.Choose line ways
out_choose line ways = ap out-Item (sym (variants.rolls-Choose line ways)) ∙ out-roll-Item (layers.Choose line ways)

module _ {W : Type 0} (rules : Rules W) (turns : ℕ) where
  -- what a leaf that comes first comes to
  pub data LeafWalks (hart line : ℕ) (item : Item) (todo : List (ℕ × Item)) (whole : W) (t : Tally) : Outcome W → Type 0 where
    over : turns ≤ t.turns → LeafWalks hart line item todo whole t (GaveUp t)
    took : {next : W} {o : Outcome W} → t.turns < turns → rules.turn hart item (words 16 t.draws) whole (Taken next) → Walks rules turns todo next (turn_made t) o → LeafWalks hart line item todo whole t o
    none : t.turns < turns → rules.turn hart item (words 16 t.draws) whole NoneFits → LeafWalks hart line item todo whole t (Dead (nothing_fitted line t))
    large : t.turns < turns → rules.turn hart item (words 16 t.draws) whole Spent → LeafWalks hart line item todo whole t (Dead (was_spent line t))

  abbrev pub FirstWalks : ℕ → Item → Item-F Item → List (ℕ × Item) → W → Tally → Outcome W → Type 0
  FirstWalks hart item (layers.Leaf line wishes) todo whole t o = LeafWalks hart line item todo whole t o
  FirstWalks hart item (layers.FetchFault line causes) todo whole t o = LeafWalks hart line item todo whole t o
  FirstWalks hart item (layers.Seq body) todo whole t o = Walks rules turns (of_hart hart body.items ++ todo) whole t o
  FirstWalks hart item (layers.Repeat times body) todo whole t o = Walks rules turns (copies times (of_hart hart body.items) ++ todo) whole t o
  FirstWalks hart item (layers.Choose line ways) todo whole t o = Tries rules turns hart (in_turn ways.items (pcg32 t.draws).0) todo whole (draw_made t) o
  FirstWalks hart item (layers.Label name) todo whole t o = Walks rules turns todo (rules.label hart name whole) t o

  abbrev pub Opened : List (ℕ × Item) → W → Tally → Outcome W → Type 0
  Opened [] whole t o = o ≡ Finished whole t
  Opened (x ∷ todo) whole t o = FirstWalks x.0 x.1 (out-Item x.1) todo whole t o

  first_leaf : {hart line : ℕ} {item : Item} {todo : List (ℕ × Item)} {whole : W} {t : Tally} {o : Outcome W} → IsLeaf item line → LeafWalks hart line item todo whole t o → FirstWalks hart item (out-Item item) todo whole t o
  first_leaf {hart = hart} {todo = todo} {whole = whole} {t = t} {o = o} (leaf line wishes) walks = subst (λ (x : Item-F Item). FirstWalks hart (variants.Leaf line wishes) x todo whole t o) (sym (out_leaf line wishes)) walks
  first_leaf {hart = hart} {todo = todo} {whole = whole} {t = t} {o = o} (fault line causes) walks = subst (λ (x : Item-F Item). FirstWalks hart (variants.FetchFault line causes) x todo whole t o) (sym (out_fault line causes)) walks

  pub opened : {todo : List (ℕ × Item)} {whole : W} {t : Tally} {o : Outcome W} → Walks rules turns todo whole t o → Opened todo whole t o
  opened finished = refl
  opened (gives_up is le) = first_leaf is (over le)
  opened (taken is lt gives walks) = first_leaf is (took lt gives walks)
  opened (unfit is lt gives) = first_leaf is (none lt gives)
  opened (too_large is lt gives) = first_leaf is (large lt gives)
  opened (label {hart = hart} name {todo = todo} {whole = whole} {t = t} {o = o} walks) = subst (λ (x : Item-F Item). FirstWalks hart (variants.Label name) x todo whole t o) (sym (out_label name)) walks
  opened (seq {hart = hart} body {todo = todo} {whole = whole} {t = t} {o = o} walks) = subst (λ (x : Item-F Item). FirstWalks hart (views.Seq body) x todo whole t o) (sym (out_seq body)) walks
  opened (rep {hart = hart} times body {todo = todo} {whole = whole} {t = t} {o = o} walks) = subst (λ (x : Item-F Item). FirstWalks hart (views.Repeat times body) x todo whole t o) (sym (out_repeat times body)) walks
  opened (choose {hart = hart} line ways {todo = todo} {whole = whole} {t = t} {o = o} tries) = subst (λ (x : Item-F Item). FirstWalks hart (views.Choose line ways) x todo whole t o) (sym (out_choose line ways)) tries

  -- what a walk comes to by what comes first
  module _ (hart : ℕ) (todo : List (ℕ × Item)) (whole : W) (t : Tally) (o : Outcome W) where
    pub leaf_opened : {line : ℕ} {item : Item} → IsLeaf item line → Walks rules turns ((hart, item) ∷ todo) whole t o → LeafWalks hart line item todo whole t o
    leaf_opened (leaf line wishes) walks = subst (λ (x : Item-F Item). FirstWalks hart (variants.Leaf line wishes) x todo whole t o) (out_leaf line wishes) (opened walks)
    leaf_opened (fault line causes) walks = subst (λ (x : Item-F Item). FirstWalks hart (variants.FetchFault line causes) x todo whole t o) (out_fault line causes) (opened walks)

    pub label_opened : (name : ℕ) → Walks rules turns ((hart, variants.Label name) ∷ todo) whole t o → Walks rules turns todo (rules.label hart name whole) t o
    label_opened name walks = subst (λ (x : Item-F Item). FirstWalks hart (variants.Label name) x todo whole t o) (out_label name) (opened walks)

    pub seq_opened : (body : Vec Item Global) → Walks rules turns ((hart, views.Seq body) ∷ todo) whole t o → Walks rules turns (of_hart hart body.items ++ todo) whole t o
    seq_opened body walks = subst (λ (x : Item-F Item). FirstWalks hart (views.Seq body) x todo whole t o) (out_seq body) (opened walks)

    pub repeat_opened : (times : ℕ) (body : Vec Item Global) → Walks rules turns ((hart, views.Repeat times body) ∷ todo) whole t o → Walks rules turns (copies times (of_hart hart body.items) ++ todo) whole t o
    repeat_opened times body walks = subst (λ (x : Item-F Item). FirstWalks hart (views.Repeat times body) x todo whole t o) (out_repeat times body) (opened walks)

    pub choose_opened : (line : ℕ) (ways : Vec (ℕ × Vec Item Global) Global) → Walks rules turns ((hart, views.Choose line ways) ∷ todo) whole t o → Tries rules turns hart (in_turn ways.items (pcg32 t.draws).0) todo whole (draw_made t) o
    choose_opened line ways walks = subst (λ (x : Item-F Item). FirstWalks hart (views.Choose line ways) x todo whole t o) (out_choose line ways) (opened walks)
