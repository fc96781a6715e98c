use Rattle.std.proofs.Common.{Option, IfSome, subst}
use Rattle.near_marks.specs.declared.close.Distances.{Distances}
use Rattle.near_marks.specs.Internal.Close.{AreDistances}
use Rattle.near_marks.proofs.Closing.{met_by_distances}
use Rattle.near_marks.proofs.close.may_meet.Goals as goal

pub returns-in-Some : goal.returns-in-Some
returns-in-Some c = met_by_distances c.args.firsts.now c.args.others.now c.in-Some.distances c.args.ends c.args.sum c.is_distance.result (subst (λ (o : Option Distances). IfSome o (AreDistances c.args.firsts.now c.args.others.now)) c.in-Some.is c.requires.distances) c.is_distance.ensures
