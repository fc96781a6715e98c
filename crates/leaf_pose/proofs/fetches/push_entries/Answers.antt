use Rattle.std.proofs.Common.{[], ◌∷◌, Option, subst, sym}
use Rattle.leaf_stand.specs.declared.shape.End.{End}
use Rattle.leaf_stand.specs.Stands.{turn_of}
use Rattle.leaf_pose.specs.Fetches.{AddsCases, case_by, entries_case}
use Rattle.leaf_pose.proofs.Fetching.{one_comes}
use Rattle.leaf_pose.proofs.fetches.push_entries.Goals as goal

pub returns : goal.returns
returns c =
    subst (λ (o : Option End). AddsCases c.args.cases.now c.push.new.self (case_by (turn_of c.args.stand.now) c.args.way.now o)) (sym c.in-Some.is)
    (one_comes c.args.cases.now c.push.new.self c.in_ok-case.case (entries_case (turn_of c.args.stand.now) c.args.way.now c.in-Some.end ∷ []) c.in_ok-push.ensures.ok c.in_ok-case.ensures.shape c.in_ok-case.ensures.fits)
