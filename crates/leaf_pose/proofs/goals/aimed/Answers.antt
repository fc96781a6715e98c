use Rattle.tpl_ast.specs.declared.template.Var.TheVariants as vars
use Rattle.leaf_link.specs.Cases.{all_tests}
use Rattle.leaf_stand.specs.Stands.{turn_of}
use Rattle.leaf_pose.proofs.AddressRows.{passing_set}
use Rattle.leaf_pose.proofs.goals.aimed.Goals as goal

pub returns : goal.returns
returns c = c.in_ok-targets.ensures (all_tests (turn_of c.args.stand.now) c.args.leaf.now vars.Pa) (passing_set _ c.in_ok-all.all c.in_ok-wanted.wanted c.in_ok-all.ensures c.in_ok-wanted.ensures)
