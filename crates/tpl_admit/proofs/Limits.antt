-- A well-formed certificate's trace is within the limits of what is judged.
use Rattle.std.proofs.Common.{◌≡◌, ℕ, ◌+◌, ◌≤◌, List, [], ◌∷◌, length, sym, ◌∙◌, arith}
use Rattle.std.specs.Prelude.{sum_by}
use Rattle.std.specs.List.{AllByRecursion}
use Rattle.std.proofs.lemmas.List.Sums.{sum_by-cons}
use Rattle.rv_hart.specs.declared.record.Record.{Record}
use Rattle.tpl_admit.specs.declared.certificate.Cert.{Cert}
use Rattle.tpl_admit.specs.Admission.{trace_in}
use Rattle.tpl_admit.specs.Internal.Walks.{IsWithinLimits}
use Rattle.tpl_admit.specs.WellFormed.{IsWellFormed}

each_within : (traces : List (List Record)) (most : ℕ) → sum_by (λ t. length t) traces ≤ most → AllByRecursion (λ t. length t ≤ most) traces
each_within [] most few = tt
each_within (t ∷ ts) most few =
    let sum : sum_by (λ t. length t) (t ∷ ts) ≡ length t + sum_by (λ t. length t) ts = sum_by-cons (λ (t : List Record). length t) t ts in
    (omega (arith, sum, few), each_within ts most (omega (arith, sum, few)))

pub within_limits : (c : Cert) → IsWellFormed c → IsWithinLimits (trace_in c)
within_limits c w = record {
  harts = omega (arith, w.template_harts, w.harts);
  start = sym w.template_harts;
  records = w.traces_count ∙ sym w.template_harts;
  steps = each_within c.traces 8192 w.steps;
}
