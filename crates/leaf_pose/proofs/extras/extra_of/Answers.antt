use Rattle.std.proofs.Common.{List, length, ap, ◌∙◌}
use Rattle.leaf_stand.specs.declared.shape.Shape.{Shape}
use Rattle.leaf_pose.specs.Extras.{stays_of}
use Rattle.leaf_pose.proofs.Adding.{extra_is, stays_length}
use Rattle.leaf_pose.proofs.extras.extra_of.Goals as goal

pub returns-clause-bias : goal.returns-clause-bias
returns-clause-bias c =
    extra_is c.accesses_are_goals.ensures.there c.accesses_are_goals.ensures.back c.ways_are_built.ensures.all c.biases_in_cases.ensures.addresses c.args.stand.now c.args.bias.now c.args.posed.now.problem c.args.posed.now.shapes (record { cases = c.in_ok-cases.cases; cuts = c.in_ok-cuts.cuts; rels = c.in_ok-rels.rels }) c.biases_in_cases.ensures.biases c.ways_are_built.ensures.plain c.requires.between
    (c.in_ok-cases.ensures ∙ ap (λ (l : List Shape). stays_of c.args.stand.now c.args.bias.now l) c.as_slice.ensures) c.in_ok-cuts.ensures c.in_ok-rels.ensures

pub returns-clause-places : goal.returns-clause-places
returns-clause-places c =
    ap (λ (l : List Rattle.std.proofs.Common.Bool). length l) c.in_ok-cases.ensures ∙ stays_length c.args.stand.now c.args.bias.now c.as_slice.result.now ∙ ap (λ (l : List Shape). length l) c.as_slice.ensures
