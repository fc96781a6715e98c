-- `show` has one answer at most.
use Rattle.std.proofs.Common.{◌≡◌, ◌≢◌, ℕ, ◌<◌, ◌≤◌, inl, inr, List, [], length, sym, ◌∙◌, ap, Result, Ok, Err, arith}
use Rattle.std.specs.Prelude.{IfOk}
use Rattle.std.specs.List.{AllByRecursion}
use Rattle.tpl_admit.specs.declared.certificate.Cert.{Cert}
use Rattle.elf_image.specs.Told.{Told, told}
use Rattle.trace_text.specs.Report.{report_text}
use Rattle.tool_texts.specs.declared.answer.Answer.{Answer}
use Rattle.tool_texts.specs.declared.error.OutOfMemory.{OutOfMemory}
use Rattle.tool_texts.specs.Answers.{number_of}
use Rattle.tool_texts.specs.Files.{IsFileOf}
use Rattle.tool_texts.specs.Show.{IsReportOfFile, ShowAnswers}
use Rattle.tool_texts.proofs.Files.{file_short, long_malformed, one_malformed, one_told}
use Rattle.tool_texts.proofs.Replays.{Rests}
use Rattle.tool_texts.proofs.Told.{report_same, told_same}

-- certificates of one file have one report
report_moved : Rests → (bytes : List ℕ) (a b : Cert) → IsFileOf bytes a → IsFileOf bytes b → report_text a ≡ report_text b
report_moved rests bytes a b f g =
    let same : told a ≡ told b = one_told rests.spelling bytes a b f g in
    report_same a b.template (ap (λ (x : Told). x.said.names) same) ∙ ap report_text (told_same a b same)

one_report : Rests → (bytes l m : List ℕ) → IsReportOfFile bytes l → IsReportOfFile bytes m → l ≡ m
one_report rests bytes l m v w = v.text_is ∙ report_moved rests bytes v.certificate w.certificate v.file w.file ∙ sym w.text_is

pub one_show : Rests → (bytes : List ℕ) → AllByRecursion (λ b. b < 256) bytes → (s : ℕ) (o r : List ℕ) → ShowAnswers bytes s o r
    → (s' : ℕ) (o' r' : List ℕ) → ShowAnswers bytes s' o' r' → (s ≡ s') × (o ≡ o') × (r ≡ r')
one_show rests bytes fits s o r (inl a) s' o' r' (inl b) = (a.0 ∙ sym b.0, one_report rests bytes o o' a.1 b.1, a.2 ∙ sym b.2)
one_show rests bytes fits s o r (inl a) s' o' r' (inr b) = absurd (b.2.none a.1.certificate a.1.file)
one_show rests bytes fits s o r (inr a) s' o' r' (inl b) = absurd (a.2.none b.1.certificate b.1.file)
one_show rests bytes fits s o r (inr a) s' o' r' (inr b) = (a.0 ∙ sym b.0, a.1 ∙ sym b.1, one_malformed rests.wrong bytes fits r r' a.2 b.2)

-- to too many bytes it answers alike
pub long_show : Rests → (a b : List ℕ) → 8388609 ≤ length a → 8388609 ≤ length b → (s : ℕ) (o r : List ℕ) → ShowAnswers a s o r → ShowAnswers b s o r
long_show rests a b many many' s o r (inl v) = absurd (omega (arith, many, file_short rests.lengths a v.1.certificate v.1.file))
long_show rests a b many many' s o r (inr w) = inr (w.0, w.1, long_malformed rests.lengths a b r many many' w.2)

pub reported_show : (bytes : List ℕ) (s : ℕ) (o r : List ℕ) → ShowAnswers bytes s o r → s ≢ 0 → s ≢ 10 → o ≡ []
reported_show bytes s o r (inl a) some other = absurd (some a.0)
reported_show bytes s o r (inr a) some other = a.1

-- what is told of a certificate's file answers `show`
pub shown_answers : (bytes : List ℕ) (certificate : Cert) (result : Result Answer OutOfMemory) → IsFileOf bytes certificate → IfOk result (λ a. number_of a.status ≡ 0) → IfOk result (λ a. a.out.items ≡ report_text certificate)
    → IfOk result (λ a. a.report.items ≡ []) → IfOk result (λ a. ShowAnswers bytes (number_of a.status) a.out.items a.report.items)
shown_answers bytes certificate (Ok a) file status out report = inl (status, record { certificate = certificate; file = file; text_is = out }, report)
shown_answers bytes certificate (Err e) file status out report = tt
