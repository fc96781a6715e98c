use Rattle.std.proofs.Common.{List, ℕ, Option, subst}
use Rattle.data_goals.specs.Goals.{IsCut}
use Rattle.leaf_csrs.proofs.Counted.{in_both}
use Rattle.leaf_pose.proofs.goals.left_by.Goals as goal

pub returns-in_ok-and-in-Some : goal.returns-in_ok-and-in-Some
returns-in_ok-and-in-Some c test own h k v small = in_both test own c.args.set c.in-Some.cut c.in_ok-and-in-Some.field-0 h (subst (λ (o : Option (List ℕ)). IsCut own o) c.in-Some.is k) c.in_ok-and-in-Some.ensures v small
