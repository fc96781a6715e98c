-- Where a certificate's trace first fails its template.
use Rattle.std.specs.Prelude.{◌≡◌, ℕ, false, List}
use Rattle.std.specs.List.{AllByRecursion}
use Rattle.rv_script.specs.Lists.{HasItem}
use Rattle.tpl_admit.specs.declared.admission.Unmet.{Unmet}
use Rattle.tpl_admit.specs.declared.certificate.Cert.{Cert}
use Rattle.tpl_admit.specs.Admission.{trace_in}
use Rattle.tpl_admit.specs.Admitting.{comes_before, failures_of}

-- one of the failures, and none of them comes before it
pub record IsLeast (fs : List Unmet) (u : Unmet) : Type 0 where
  pub one : HasItem fs u
  pub least : AllByRecursion (λ f. comes_before f u ≡ false) fs

-- the least failure by hart, step and atom
abbrev pub IsLeastFailure : Cert → ℕ → ℕ → ℕ → Type 0
IsLeastFailure c hart step atom = IsLeast (failures_of (trace_in c)) (record { hart = hart; step = step; atom = atom })
