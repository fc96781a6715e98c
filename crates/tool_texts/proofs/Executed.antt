-- The answer of `exec` to the file of a certificate.
use Rattle.std.proofs.Common.{◌≡◌, ℕ, ◌+◌, ◌<◌, ◌≤◌, inl, inr, List, [], ◌++◌, length, append-nil, refl, ap, ◌∙◌, Result, Ok, Err, arith, length-append}
use Rattle.std.specs.Prelude.{IfOk}
use Rattle.tpl_admit.specs.declared.certificate.Cert.{Cert}
use Rattle.replay_check.specs.Failures.{IsFirstFailure}
use Rattle.rv_system.specs.Faithfulness.{IsFaithful, Keeps}
use Rattle.tpl_admit.specs.Starts.{AgreesWith, first_system}
use Rattle.tpl_admit.specs.Validity.{IsSound, IsValid}
use Rattle.run_order.specs.Orders.{TurnsAreTaken}
use Rattle.replay_check.specs.declared.verdict.Verdict.{Verdict}
use Rattle.replay_check.specs.declared.verdict.Verdict.TheVariants.{Yes, No}
use Rattle.trace_text.specs.Verdicts.{verdict_text}
use Rattle.tool_texts.specs.declared.answer.Answer.{Answer}
use Rattle.tool_texts.specs.declared.error.OutOfMemory.{OutOfMemory}
use Rattle.tool_texts.specs.Answers.{number_of}
use Rattle.tool_texts.specs.Exec.{ExecAnswers, drawn_turns, run_text, verdict_behind}
use Rattle.tool_texts.specs.Files.{IsFileOf}
use Rattle.tool_texts.proofs.Runs.{kept, no_stop, whole_records}

-- what is told of a run and its verdict answers `exec`
pub run_answers : TurnsAreTaken → ((c : Cert) → IsSound c → AgreesWith c (first_system c)) → (number : ℕ) (certificate : Cert) (verdict : Verdict) (text : List ℕ) (result : Result Answer OutOfMemory)
    → text ≡ run_text number certificate → (verdict ≡ Yes → IsValid certificate) → (verdict ≡ Yes → IsFaithful certificate)
    → ((kind hart step : ℕ) → verdict ≡ No kind hart step → IsFirstFailure certificate kind hart step) → (verdict ≡ Yes → IfOk result (λ a. number_of a.status ≡ 0))
    → ((kind hart step : ℕ) → verdict ≡ No kind hart step → IfOk result (λ a. number_of a.status ≡ 10)) → IfOk result (λ a. a.out.items ≡ text ++ verdict_behind verdict) → IfOk result (λ a. a.report.items ≡ [])
    → (bytes : List ℕ) → IsFileOf bytes certificate → IfOk result (λ a. ExecAnswers number bytes (number_of a.status) a.out.items a.report.items)
run_answers taken agreed number certificate Yes text (Ok a) text_is valid faithful failure whole broken out report bytes file =
    let keeps : Keeps certificate (first_system certificate) (drawn_turns number certificate) = kept taken agreed number certificate (valid refl) (faithful refl) in
    inl (
      whole refl,
      record {
        certificate = certificate;
        file = file;
        valid = valid refl;
        faithful = faithful refl;
        whole = keeps.whole;
        records = whole_records taken number certificate keeps;
        text_is = out ∙ append-nil text ∙ text_is ∙ no_stop number certificate keeps.whole;
      },
      report,
    )
run_answers taken agreed number certificate Yes text (Err e) text_is valid faithful failure whole broken out report bytes file = tt
run_answers taken agreed number certificate (No kind hart step) text (Ok a) text_is valid faithful failure whole broken out report bytes file =
    inr (inr (
      broken kind hart step refl,
      record {
        certificate = certificate;
        file = file;
        kind = kind;
        hart = hart;
        step = step;
        failure = failure kind hart step refl;
        text_is = out ∙ ap (λ (t : List ℕ). t ++ verdict_text (No kind hart step)) text_is;
      },
      report,
    ))
run_answers taken agreed number certificate (No kind hart step) text (Err e) text_is valid faithful failure whole broken out report bytes file = tt

-- and fits into the room of a sink
pub out_short : ((v : Verdict) → length (verdict_text v) ≤ 256) → (verdict : Verdict) (text : List ℕ) (result : Result Answer OutOfMemory) → length text + 256 < 16777216
    → IfOk result (λ a. a.out.items ≡ text ++ verdict_behind verdict) → IfOk result (λ a. length a.out.items < 16777216)
out_short short Yes text (Ok a) few out = let long : length a.out.items ≡ length text = ap (λ (b : List ℕ). length b) (out ∙ append-nil text) in omega (arith, long, few)
out_short short (No kind hart step) text (Ok a) few out =
    let long : length a.out.items ≡ length text + length (verdict_text (No kind hart step)) = ap (λ (b : List ℕ). length b) out ∙ length-append text (verdict_text (No kind hart step)) in
    omega (arith, long, few, short (No kind hart step))
out_short short verdict text (Err e) few out = tt
