-- A certificate has the same first failure with another template that says the same.
use Rattle.std.proofs.Common.{◌≡◌, ℕ, inl, inr, if◌then◌else◌, List, Some, None, sym, ap, subst}
use Rattle.tpl_ast.specs.declared.template.Region.{Region}
use Rattle.tpl_ast.specs.declared.template.Template.{Template}
use Rattle.tpl_ast.specs.Laws.{LinesTellExpansions}
use Rattle.tpl_lang.specs.Parsing.{Said, said_by}
use Rattle.tpl_admit.specs.declared.admission.Unmet.{Unmet}
use Rattle.tpl_admit.specs.declared.certificate.Cert.{Cert}
use Rattle.tpl_admit.specs.Admission.{trace_in}
use Rattle.tpl_admit.specs.Admitting.{failures_of}
use Rattle.replay_check.specs.Failures.{AllAreRight, AllEndAsPrinted, HartGoesWrong, HartIsRight, IsFirstFailure}
use Rattle.tpl_admit.specs.Validity.{EndsAsPrinted}
use Rattle.tpl_admit.specs.Laws.{with_template}
use Rattle.tpl_admit.specs.Solo.{solo_run, knows_after}
use Rattle.tpl_admit.specs.Starts.{final_of, fixed_in, is_given, start_of, lookup}
use Rattle.tpl_admit.specs.Unmet.{IsLeast}
use Rattle.tpl_admit.proofs.Said.{failures_same}

-- ---- the machine

-- the certificate with the template, in this RAM
abbrev in_ram : Cert → Template → List Region → Cert
in_ram c t r = with_template c (record t { ram = r })

right_same : (c : Cert) (t : Template) → c.template.ram ≡ t.ram → (k : ℕ) → HartIsRight c k → HartIsRight (with_template c t) k
right_same c t ram k right = subst (λ (r : List Region). HartIsRight (in_ram c t r) k) ram right

end_same : (c : Cert) (t : Template) → c.template.ram ≡ t.ram → (k : ℕ) → EndsAsPrinted c k → EndsAsPrinted (with_template c t) k
end_same c t ram k end = record {
  fixed = subst (λ (r : List Region). fixed_in r k (final_of c k) ≡ (solo_run (in_ram c t r) k).hart.fixed) ram end.fixed;
  places = λ key. subst (λ (r : List Region). lookup (final_of c k).places key ≡ (if knows_after (is_given (start_of c k)) (solo_run (in_ram c t r) k).steps key then Some ((solo_run (in_ram c t r) k).hart.file key) else None)) ram (end.places key);
}

steps_same : (c : Cert) (t : Template) → c.template.ram ≡ t.ram → AllAreRight c → AllAreRight (with_template c t)
steps_same c t ram all = λ k within. right_same c t ram k (all k within)

ends_same : (c : Cert) (t : Template) → c.template.ram ≡ t.ram → AllEndAsPrinted c → AllEndAsPrinted (with_template c t)
ends_same c t ram all = λ k within. end_same c t ram k (all k within)

pub failure_same : LinesTellExpansions → (c : Cert) (t : Template) → said_by c.template ≡ said_by t → (kind hart step : ℕ) → IsFirstFailure c kind hart step → IsFirstFailure (with_template c t) kind hart step
failure_same tell c t same kind hart step (inl f) =
    let ram : c.template.ram ≡ t.ram = ap (λ (s : Said). s.ram) same in
    inl (record {
      there = f.there;
      before = λ k below. right_same c t ram k (f.before k below);
      wrong = subst (λ (r : List Region). HartGoesWrong (in_ram c t r) hart kind step) ram f.wrong;
    })
failure_same tell c t same kind hart step (inr (inl f)) =
    let ram : c.template.ram ≡ t.ram = ap (λ (s : Said). s.ram) same in
    inr (inl (record {
      steps = steps_same c t ram f.steps;
      kind_is = f.kind_is;
      there = f.there;
      before = λ k below. end_same c t ram k (f.before k below);
      wrong = λ end. f.wrong (end_same (with_template c t) c.template (sym ram) hart end);
      step_is = f.step_is;
    }))
failure_same tell c t same kind hart step (inr (inr (inl f))) =
    let ram : c.template.ram ≡ t.ram = ap (λ (s : Said). s.ram) same in
    inr (inr (inl (record {
      steps = steps_same c t ram f.steps;
      ends = ends_same c t ram f.ends;
      kind_is = f.kind_is;
      wrong = f.wrong;
      hart_is = f.hart_is;
      step_is = f.step_is;
    })))
failure_same tell c t same kind hart step (inr (inr (inr (inl f)))) =
    let ram : c.template.ram ≡ t.ram = ap (λ (s : Said). s.ram) same in
    inr (inr (inr (inl (record {
      steps = steps_same c t ram f.steps;
      ends = ends_same c t ram f.ends;
      memory = f.memory;
      kind_is = f.kind_is;
      from = record { there = f.from.there; at = f.from.at; before = f.from.before; races = f.from.races };
    }))))
failure_same tell c t same kind hart step (inr (inr (inr (inr f)))) =
    let ram : c.template.ram ≡ t.ram = ap (λ (s : Said). s.ram) same in
    let failures : failures_of (trace_in c) ≡ failures_of (trace_in (with_template c t)) =
    failures_same tell c c.template t (ap (λ (s : Said). s.words) same) 0 c.template.harts t.harts (ap (λ (s : Said). s.harts) same) (Some c.choices) in
    inr (inr (inr (inr (record {
      steps = steps_same c t ram f.steps;
      ends = ends_same c t ram f.ends;
      memory = f.memory;
      race_free = f.race_free;
      kind_is = f.kind_is;
      atom = f.atom;
      least = subst (λ (us : List Unmet). IsLeast us (record { hart = hart; step = step; atom = f.atom })) failures f.least;
    }))))
