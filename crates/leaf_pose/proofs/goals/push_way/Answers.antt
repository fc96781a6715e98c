use Rattle.std.proofs.Common.{sym, subst, refl, inl, inr, ◌∷◌, []}
use Rattle.rv_script.specs.Lists.{HasItem}
use Rattle.data_ways.specs.declared.way.DataEnd.{DataEnd}
use Rattle.data_goals.specs.declared.goal.Goal.TheVariants.{Fails, Fresh, Known}
use Rattle.data_goals.specs.Goals.{goal_way, goals_by, ways_by}
use Rattle.leaf_stand.specs.Posed.{stand_cases}
use Rattle.leaf_stand.specs.Stands.{turn_of}
use Rattle.leaf_pose.specs.Posed.{Adds}
use Rattle.leaf_pose.proofs.Accessing.{adds_either}
use Rattle.leaf_pose.proofs.goals.push_way.Goals as goal

pub returns-in_ok-push_goal-in-Fails : goal.returns-in_ok-push_goal-in-Fails
returns-in_ok-push_goal-in-Fails c a aimed goals =
    subst (λ (d : DataEnd). Adds c.args.stand.now c.args.leaf.now c.args.shaped.now c.push_goal.new.shaped (stand_cases c.args.stand.now c.args.leaf.now c.args.op (ways_by (turn_of c.args.stand.now) a c.args.leaf.now c.args.op c.args.way.now (goals_by d)))) (sym c.in-Fails.is)
    (c.in_ok-push_goal-in-Fails.ensures a aimed (goals Fails (subst (λ (d : DataEnd). HasItem (goals_by d) Fails) (sym c.in-Fails.is) (inl refl))))

pub returns-in_ok-push_goal-in-At-2 : goal.returns-in_ok-push_goal-in-At-2
returns-in_ok-push_goal-in-At-2 c a aimed goals =
    let t = turn_of c.args.stand.now in
    let leaf = c.args.leaf.now in
    let op = c.args.op in
    subst (λ (d : DataEnd). Adds c.args.stand.now leaf c.args.shaped.now c.push_goal-in-At-2.new.shaped (stand_cases c.args.stand.now leaf op (ways_by t a leaf op c.args.way.now (goals_by d)))) (sym c.in-At.is)
    (adds_either c.args.stand.now leaf op (goal_way t a leaf op c.args.way.now Known ∷ []) (goal_way t a leaf op c.args.way.now Fresh ∷ []) c.args.shaped.now c.push_goal-in-At.new.shaped c.push_goal-in-At-2.new.shaped
    (c.in_ok-push_goal-in-At.ensures a aimed (goals Known (subst (λ (d : DataEnd). HasItem (goals_by d) Known) (sym c.in-At.is) (inl refl))))
    (c.in_ok-push_goal-in-At-2.ensures a aimed (goals Fresh (subst (λ (d : DataEnd). HasItem (goals_by d) Fresh) (sym c.in-At.is) (inr (inl refl))))))
