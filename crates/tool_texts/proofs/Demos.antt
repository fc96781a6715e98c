-- `demo` has one answer at most.
use Rattle.std.proofs.Common.{◌≡◌, ◌≢◌, ℕ, ◌≤◌, inl, inr, List, [], refl, sym, ◌∙◌, ap, Result, Ok, Err}
use Rattle.std.specs.Prelude.{IfOk}
use Rattle.tpl_ast.specs.declared.template.Template.{Template}
use Rattle.tpl_admit.specs.declared.certificate.Cert.{Cert}
use Rattle.tpl_admit.specs.Laws.{with_template}
use Rattle.cover_sweep.specs.Counts.{counts_of}
use Rattle.cover_sweep.specs.Laws.{DemosAreRead}
use Rattle.cover_sweep.specs.Summary.{summary_text}
use Rattle.cover_sweep.specs.Template.{demo_template}
use Rattle.gen_turn.specs.Laws.{TextsTellWhatIsMade}
use Rattle.tool_texts.specs.declared.answer.Answer.{Answer}
use Rattle.tool_texts.specs.declared.error.OutOfMemory.{OutOfMemory}
use Rattle.tool_texts.specs.Answers.{number_of}
use Rattle.tool_texts.specs.Demo.{DemoAnswers, IsDemo, demo_effort}
use Rattle.tool_texts.specs.Tests.{IsGaveUpLine, IsRefusal, IsTest}
use Rattle.tool_texts.proofs.Tests.{no_test, not_both, one_certificate, one_refusal}

summary_same : (n : ℕ) (c : Cert) (t : Template) → summary_text n c ≡ summary_text n (with_template c t)
unfolding summary_text counts_of
summary_same n c t = refl

module _ (tell : TextsTellWhatIsMade) (n : ℕ) where
  one_summary : (l m : List ℕ) → IsDemo n l → IsDemo n m → l ≡ m
  one_summary l m v w =
      v.text_is ∙ summary_same n v.certificate w.certificate.template ∙ ap (λ (c : Cert). summary_text n c) (one_certificate tell (demo_effort n) (demo_template n) v.certificate w.certificate v.test w.test) ∙ sym w.text_is

  pub one_demo : (s : ℕ) (o r : List ℕ) → DemoAnswers n s o r → (s' : ℕ) (o' r' : List ℕ) → DemoAnswers n s' o' r' → (s ≡ s') × (o ≡ o') × (r ≡ r')
  one_demo s o r (inl a) s' o' r' (inl b) = (a.0 ∙ sym b.0, one_summary o o' a.1 b.1, a.2 ∙ sym b.2)
  one_demo s o r (inl a) s' o' r' (inr b) = absurd (no_test tell (demo_effort n) (demo_template n) 5 r' a.1.certificate a.1.test (inr (refl, b.2)))
  one_demo s o r (inr a) s' o' r' (inl b) = absurd (no_test tell (demo_effort n) (demo_template n) 5 r b.1.certificate b.1.test (inr (refl, a.2)))
  one_demo s o r (inr a) s' o' r' (inr b) = (a.0 ∙ sym b.0, a.1 ∙ sym b.1, (one_refusal tell (demo_effort n) (demo_template n) 5 5 r r' (inr (refl, a.2)) (inr (refl, b.2))).1)

pub reported_demo : (n s : ℕ) (o r : List ℕ) → DemoAnswers n s o r → s ≢ 0 → s ≢ 10 → o ≡ []
reported_demo n s o r (inl a) some other = absurd (some a.0)
reported_demo n s o r (inr a) some other = a.1

-- of a demo template no line says that it is none
demo_refusal : DemosAreRead → (n : ℕ) → n ≤ 2000 → (status : ℕ) (line : List ℕ) → IsRefusal (demo_effort n) (demo_template n) status line → (status ≡ 5) × IsGaveUpLine (demo_effort n) (demo_template n) line
demo_refusal read n few status line (inl why) = absurd (not_both _ _ (sym (read n few) ∙ why.1.1))
demo_refusal read n few status line (inr up) = up

pub demo_refused : DemosAreRead → (n : ℕ) → n ≤ 2000 → (result : Result Answer OutOfMemory) → IfOk result (λ a. a.out.items ≡ [])
    → IfOk result (λ a. IsRefusal (demo_effort n) (demo_template n) (number_of a.status) a.report.items) → IfOk result (λ a. DemoAnswers n (number_of a.status) a.out.items a.report.items)
demo_refused read n few (Ok a) out line = let up = demo_refusal read n few (number_of a.status) a.report.items line in inr (up.0, out, up.1)
demo_refused read n few (Err e) out line = tt

pub demo_made : (n : ℕ) (certificate : Cert) (result : Result Answer OutOfMemory) → IsTest (demo_effort n) (demo_template n) certificate → IfOk result (λ a. number_of a.status ≡ 0)
    → IfOk result (λ a. a.out.items ≡ summary_text n certificate) → IfOk result (λ a. a.report.items ≡ []) → IfOk result (λ a. DemoAnswers n (number_of a.status) a.out.items a.report.items)
demo_made n certificate (Ok a) test status out report = inl (status, record { certificate = certificate; test = test; text_is = out }, report)
demo_made n certificate (Err e) test status out report = tt
