use Rattle.std.proofs.Common.{subst, sym}
use Rattle.set_sums.specs.declared.sums.Wanted.{Wanted}
use Rattle.set_sums.specs.Internal.Wanted.{HoldsAny}
use Rattle.set_sums.proofs.Wanted.{wanted_class_sums}
use Rattle.set_sums.proofs.sums.classes_of.Goals as goal

pub returns-in_ok-sums-in-Sums : goal.returns-in_ok-sums-in-Sums
returns-in_ok-sums-in-Sums c = subst (λ (wanted : Wanted). HoldsAny wanted c.args.first.now c.args.second.now c.in_ok-sums-in-Sums.sums) (sym c.in-Sums.is)
    (wanted_class_sums c.args.first.now c.args.second.now c.in_ok-sums-in-Sums.sums c.in_ok-sums-in-Sums.ensures)
