use Rattle.std.proofs.lemmas.Bool.{not-false}
use Rattle.case_search.proofs.Bounds.{not_before}
use Rattle.case_search.proofs.bound.may_precede.Goals as goal

pub returns-in-Some : goal.returns-in-Some
returns-in-Some c says x made before = not_before c.args.pivots.now c.args.best.now c.in-Some.bound x (rw (not-false c.is_before.result says) at c.is_before.ensures) (c.in-Some.ensures x made) before
