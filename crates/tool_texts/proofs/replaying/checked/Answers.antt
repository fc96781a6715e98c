use Rattle.std.proofs.Common.{◌≡◌, ℕ, inl, inr, List, [], refl, Result, Ok, Err}
use Rattle.std.specs.Prelude.{IfOk}
use Rattle.tpl_admit.specs.declared.certificate.Cert.{Cert}
use Rattle.replay_check.specs.Failures.{IsFirstFailure}
use Rattle.rv_system.specs.Faithfulness.{IsFaithful}
use Rattle.tpl_admit.specs.Validity.{IsValid}
use Rattle.replay_check.specs.declared.verdict.Verdict.{Verdict}
use Rattle.replay_check.specs.declared.verdict.Verdict.TheVariants.{Yes, No}
use Rattle.trace_text.specs.Verdicts.{verdict_text}
use Rattle.tool_texts.specs.declared.answer.Answer.{Answer}
use Rattle.tool_texts.specs.declared.error.OutOfMemory.{OutOfMemory}
use Rattle.tool_texts.specs.Answers.{number_of}
use Rattle.tool_texts.specs.Files.{IsFileOf}
use Rattle.tool_texts.specs.Replay.{ReplayAnswers}
use Rattle.tool_texts.proofs.replaying.checked.Goals as goal

told_answers : (certificate : Cert) (verdict : Verdict) (result : Result Answer OutOfMemory) → (verdict ≡ Yes → IsValid certificate) → (verdict ≡ Yes → IsFaithful certificate)
    → ((kind hart step : ℕ) → verdict ≡ No kind hart step → IsFirstFailure certificate kind hart step) → (verdict ≡ Yes → IfOk result (λ a. number_of a.status ≡ 0))
    → ((kind hart step : ℕ) → verdict ≡ No kind hart step → IfOk result (λ a. number_of a.status ≡ 10)) → IfOk result (λ a. a.out.items ≡ verdict_text verdict) → IfOk result (λ a. a.report.items ≡ [])
    → (bytes : List ℕ) → IsFileOf bytes certificate → IfOk result (λ a. ReplayAnswers bytes (number_of a.status) a.out.items a.report.items)
told_answers certificate Yes (Ok a) valid faithful failure whole broken out report bytes file =
    inl (whole refl, record { certificate = certificate; file = file; valid = valid refl; faithful = faithful refl }, out, report)
told_answers certificate Yes (Err e) valid faithful failure whole broken out report bytes file = tt
told_answers certificate (No kind hart step) (Ok a) valid faithful failure whole broken out report bytes file =
    inr (inr (broken kind hart step refl, record { certificate = certificate; file = file; kind = kind; hart = hart; step = step; failure = failure kind hart step refl; line_is = out }, report))
told_answers certificate (No kind hart step) (Err e) valid faithful failure whole broken out report bytes file = tt

pub returns-in-Ok : goal.returns-in-Ok
returns-in-Ok c =
    told_answers c.args.certificate.now c.in-Ok.verdict c.told.result c.in-Ok.ensures.yes c.in-Ok.ensures.faithful c.in-Ok.ensures.no c.told.ensures.yes c.told.ensures.no c.told.ensures.out c.told.ensures.report
