use Rattle.std.proofs.Common.{◌≡◌, sym, ◌∙◌, subst, ap, Some, None}
use Rattle.tpl_admit.specs.Admission.{trace_in}
use Rattle.tpl_admit.specs.Admitting.{Trace, failures_of, least_failure}
use Rattle.tpl_admit.specs.Internal.Walks.{IsWithinLimits}
use Rattle.tpl_admit.proofs.Failures.{none_least, least_is}
use Rattle.tpl_admit.proofs.Limits.{within_limits}
use Rattle.tpl_admit.proofs.admission.admits.Goals as goal

pub least_failure-requires : goal.least_failure-requires
least_failure-requires c = subst IsWithinLimits (sym c.trace_of.ensures) (within_limits c.args.cert.now c.requires)

pub returns-clause-none : goal.returns-clause-none
returns-clause-none c = λ is.
    let at : least_failure (trace_in c.args.cert.now) ≡ None = ap (λ (t : Trace). least_failure t) (sym c.trace_of.ensures) ∙ sym c.least_failure.ensures ∙ is in
    none_least (failures_of (trace_in c.args.cert.now)) at

pub returns-clause-some : goal.returns-clause-some
returns-clause-some c = λ u is.
    let at : least_failure (trace_in c.args.cert.now) ≡ Some u = ap (λ (t : Trace). least_failure t) (sym c.trace_of.ensures) ∙ sym c.least_failure.ensures ∙ is in
    least_is (failures_of (trace_in c.args.cert.now)) u at
