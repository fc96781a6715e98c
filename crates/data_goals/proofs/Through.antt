-- The ways of goals, one by one.
use Rattle.std.proofs.Common.{◌≡◌, List, [], ◌∷◌, refl, sym, ap, subst, inl, inr}
use Rattle.rv_isa.specs.declared.operation.Op.{Op}
use Rattle.rv_script.specs.Lists.{HasItem}
use Rattle.rv_script.proofs.Items.{has_either, has_first, has_second}
use Rattle.tpl_ast.specs.declared.template.Atom.{Atom}
use Rattle.data_ways.specs.declared.way.DataWay.{DataWay}
use Rattle.leaf_link.specs.Turns.{Turn}
use Rattle.leaf_link.specs.Cases.{Way}
use Rattle.data_goals.specs.declared.accesses.Accesses.{Accesses}
use Rattle.data_goals.specs.declared.goal.Goal.{Goal}
use Rattle.data_goals.specs.Goals.{goal_way, goals_by, ways_by, ways_through}

module _ (t : Turn) (a : Accesses) (leaf : List Atom) (op : Op) where
  in_by : (way : DataWay) (goals : List Goal) (goal : Goal) → HasItem goals goal → HasItem (ways_by t a leaf op way goals) (goal_way t a leaf op way goal)
  in_by way [] goal i = absurd i
  in_by way (g ∷ goals) goal i = elim i [
    | inl here ↦ inl (ap (goal_way t a leaf op way) here)
    | inr there ↦ inr (in_by way goals goal there)
  ]

  by_has : (way : DataWay) (goals : List Goal) (w : Way) → HasItem (ways_by t a leaf op way goals) w → (goal : Goal) × HasItem goals goal × (goal_way t a leaf op way goal ≡ w)
  by_has way [] w i = absurd i
  by_has way (g ∷ goals) w i = elim i [
    | inl here ↦ (g, inl refl, here)
    | inr there ↦ let r = by_has way goals w there in (r.0, inr r.1, r.2)
  ]

  pub in_through : (ways : List DataWay) (way : DataWay) (goal : Goal) → HasItem ways way → HasItem (goals_by way.end) goal → HasItem (ways_through t a leaf op ways) (goal_way t a leaf op way goal)
  in_through [] way goal i j = absurd i
  in_through (v ∷ ways) way goal i j = elim i [
    | inl here ↦
        has_first (ways_by t a leaf op v (goals_by v.end)) (ways_through t a leaf op ways) (goal_way t a leaf op way goal)
        (subst (λ (u : DataWay). HasItem (ways_by t a leaf op u (goals_by u.end)) (goal_way t a leaf op way goal)) (sym here) (in_by way (goals_by way.end) goal j))
    | inr there ↦ has_second (ways_by t a leaf op v (goals_by v.end)) (ways_through t a leaf op ways) (goal_way t a leaf op way goal) (in_through ways way goal there j)
  ]

  pub through_has : (ways : List DataWay) (w : Way) → HasItem (ways_through t a leaf op ways) w → (way : DataWay) × HasItem ways way × (goal : Goal) × HasItem (goals_by way.end) goal × (goal_way t a leaf op way goal ≡ w)
  through_has [] w i = absurd i
  through_has (v ∷ ways) w i = elim (has_either (ways_by t a leaf op v (goals_by v.end)) (ways_through t a leaf op ways) w i) [
    | inl here ↦ let r = by_has v (goals_by v.end) w here in (v, inl refl, r.0, r.1, r.2)
    | inr there ↦ let r = through_has ways w there in (r.0, inr r.1, r.2, r.3, r.4)
  ]
