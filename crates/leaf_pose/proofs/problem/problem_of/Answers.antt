use Rattle.leaf_pose.proofs.Whole.{shaped_lengths, whole_problem, whole_shaped}
use Rattle.fd_prob.specs.Fitting.{IsCase}
use Rattle.leaf_pose.proofs.Shapes.{nothing}
use Rattle.leaf_pose.proofs.problem.problem_of.Goals as goal

pub returns-clause-problem : goal.returns-clause-problem
returns-clause-problem c =
    whole_problem (record { there = c.accesses_are_goals.ensures.back; back = c.accesses_are_goals.ensures.there }) c.args.stand.now c.args.leaf.now c.args.draws.now c.pivots.result (record { cases = c.new.result; shapes = c.new-2.result }) c.push_firsts.new.shaped c.push_operations.new.shaped c.requires.posable c.new.ensures c.pivots.ensures
    c.in_ok-push_firsts.ensures c.in_ok-push_operations.ensures

pub returns-clause-shapes : goal.returns-clause-shapes
returns-clause-shapes c =
    whole_shaped c.args.stand.now c.args.leaf.now (record { cases = c.new.result; shapes = c.new-2.result }) c.push_firsts.new.shaped c.push_operations.new.shaped c.new.ensures c.new-2.ensures
    c.in_ok-push_firsts.ensures c.in_ok-push_operations.ensures

pub returns-clause-places : goal.returns-clause-places
returns-clause-places c =
    shaped_lengths c.args.stand.now c.args.leaf.now c.push_operations.new.shaped.shapes c.push_operations.new.shaped.cases
    (whole_shaped c.args.stand.now c.args.leaf.now (record { cases = c.new.result; shapes = c.new-2.result }) c.push_firsts.new.shaped c.push_operations.new.shaped c.new.ensures c.new-2.ensures
    c.in_ok-push_firsts.ensures c.in_ok-push_operations.ensures)

pub returns-clause-cases : goal.returns-clause-cases
returns-clause-cases c = c.in_ok-push_operations.ensures.shape (c.in_ok-push_firsts.ensures.adds.shape (nothing IsCase c.new.result c.new.ensures))
