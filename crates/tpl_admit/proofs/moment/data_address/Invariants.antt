use Rattle.std.proofs.Common.{◌≡◌, drop}
use Rattle.tpl_admit.specs.Variables.{data_address}
use Rattle.tpl_admit.proofs.moment.data_address.Given as goal

abbrev pub invariant-loop-access : goal.invariant-loop-access
invariant-loop-access l = data_address (drop l.access-index l.accesses) ≡ data_address l.accesses
