use Rattle.std.proofs.Common.{◌≡◌, true, subst, sym}
use Rattle.std.specs.Prelude.{List, length}
use Rattle.tpl_admit.specs.declared.dropped.Dropped.{Dropped}
use Rattle.tpl_admit.specs.Internal.Ordered.{is_ascending}
use Rattle.tpl_admit.proofs.Drops.{ascending}
use Rattle.tpl_admit.proofs.admission.trace_of.Goals as goal

pub invariant_of-result : goal.invariant_of-result
invariant_of-result c = record { ordered = subst (λ (ds : List Dropped). is_ascending ds ≡ true) (sym c.as_slice-6.ensures) (ascending (length c.args.cert.now.start) 0 c.args.cert.now.dropped c.requires.dropped) }
