-- The laws of answers: a line for each command.
use Rattle.std.proofs.Common.{◌≡◌, ◌≢◌, ℕ, ◌<◌, ◌≤◌, inl, inr, List, [], length, take, sym, ◌∙◌, ap, subst, arith}
use Rattle.std.proofs.lemmas.Bool.{cases_lt}
use Rattle.std.proofs.lemmas.List.{length-take-le, take_all}
use Rattle.replay_check.specs.declared.verdict.Verdict.{Verdict}
use Rattle.replay_check.specs.declared.verdict.Verdict.TheVariants.{Yes, No}
use Rattle.tpl_admit.specs.declared.certificate.Cert.{Cert}
use Rattle.tpl_admit.specs.WellFormed.{IsWellFormed}
use Rattle.tpl_lang.specs.declared.fault.Fault.{Fault}
use Rattle.trace_text.specs.Faults.{fault_text}
use Rattle.cover_sweep.specs.Summary.{summary_text}
use Rattle.trace_text.specs.Report.{report_text}
use Rattle.trace_text.specs.Verdicts.{gave_up_text, malformed_text, verdict_text}
use Rattle.tpl_lang.specs.Laws.{LongTextsAreRefused, TemplatesKeepLimits}
use Rattle.gen_turn.specs.Laws.{TextsTellWhatIsMade}
use Rattle.tool_words.specs.declared.command.Command.{Command}
use Rattle.tool_words.specs.declared.command.Command.TheVariants.{Gen, Replay, Exec, Show, Demo}
use Rattle.tool_words.specs.declared.command.Effort.{Effort}
use Rattle.tool_words.specs.Commands.{limit_of}
use Rattle.tool_texts.specs.Commands.{Answers}
use Rattle.tool_texts.specs.Demo.{DemoAnswers}
use Rattle.tool_texts.specs.Exec.{ExecAnswers}
use Rattle.tool_texts.specs.Gen.{GenAnswers}
use Rattle.tool_texts.specs.Laws.{LimitsLoseNothing, OneAnswer, RefusalsAreReported, TextsAreShort}
use Rattle.tool_texts.specs.Replay.{ReplayAnswers}
use Rattle.tool_texts.specs.Show.{ShowAnswers}
use Rattle.tool_texts.specs.Tests.{IsRefusal, IsTemplateLine}
use Rattle.tool_texts.proofs.Demos.{one_demo, reported_demo}
use Rattle.tool_texts.proofs.Execs.{long_exec, one_exec, reported_exec}
use Rattle.tool_texts.proofs.Files.{FilesHaveTheirLengths}
use Rattle.tool_texts.proofs.Replays.{Rests, long_replay, one_replay}
use Rattle.tool_texts.proofs.Shows.{long_show, one_show, reported_show}
use Rattle.tool_texts.proofs.Tests.{long_refusal, no_test, one_refusal, one_test, test_short}

-- ---- one answer

module _ (tell : TextsTellWhatIsMade) (effort : Effort) (bytes : List ℕ) where
  one_gen : (s : ℕ) (o r : List ℕ) → GenAnswers effort bytes s o r → (s' : ℕ) (o' r' : List ℕ) → GenAnswers effort bytes s' o' r' → (s ≡ s') × (o ≡ o') × (r ≡ r')
  one_gen s o r (inl a) s' o' r' (inl b) =
      let same = one_test tell effort bytes a.1.certificate b.1.certificate a.1.test b.1.test in
      (a.0 ∙ sym b.0, a.1.out_is ∙ same.0 ∙ sym b.1.out_is, a.1.report_is ∙ same.1 ∙ sym b.1.report_is)
  one_gen s o r (inl a) s' o' r' (inr b) = absurd (no_test tell effort bytes s' r' a.1.certificate a.1.test b.1)
  one_gen s o r (inr a) s' o' r' (inl b) = absurd (no_test tell effort bytes s r b.1.certificate b.1.test a.1)
  one_gen s o r (inr a) s' o' r' (inr b) = let same = one_refusal tell effort bytes s s' r r' a.1 b.1 in (same.0, a.0 ∙ sym b.0, same.1)

pub one_answer : Rests → TextsTellWhatIsMade → OneAnswer
one_answer rests tell (Gen effort) bytes fits s o r a s' o' r' b = one_gen tell effort bytes s o r a s' o' r' b
one_answer rests tell Replay bytes fits s o r a s' o' r' b = one_replay rests bytes fits s o r a s' o' r' b
one_answer rests tell (Exec number) bytes fits s o r a s' o' r' b = one_exec rests number bytes fits s o r a s' o' r' b
one_answer rests tell Show bytes fits s o r a s' o' r' b = one_show rests bytes fits s o r a s' o' r' b
one_answer rests tell (Demo n) bytes fits s o r a s' o' r' b = one_demo tell n s o r a s' o' r' b

-- ---- limits

long_gen : TemplatesKeepLimits → LongTextsAreRefused → (effort : Effort) (a b : List ℕ) → 65537 ≤ length a → 65537 ≤ length b → (s : ℕ) (o r : List ℕ) → GenAnswers effort a s o r → GenAnswers effort b s o r
long_gen keep refused effort a b many many' s o r (inl v) = absurd (omega (arith, many, test_short keep effort a v.1.certificate v.1.test))
long_gen keep refused effort a b many many' s o r (inr w) = inr (w.0, long_refusal keep refused effort a b s r many many' w.1)

-- to bytes that reach its limit a command answers alike
long_answer : Rests → TemplatesKeepLimits → LongTextsAreRefused → (command : Command) (a b : List ℕ) → limit_of command ≤ length a → limit_of command ≤ length b
    → (s : ℕ) (o r : List ℕ) → Answers command a s o r → Answers command b s o r
long_answer rests keep refused (Gen effort) a b many many' s o r v = long_gen keep refused effort a b many many' s o r v
long_answer rests keep refused Replay a b many many' s o r v = long_replay rests a b many many' s o r v
long_answer rests keep refused (Exec number) a b many many' s o r v = long_exec rests number a b many many' s o r v
long_answer rests keep refused Show a b many many' s o r v = long_show rests a b many many' s o r v
long_answer rests keep refused (Demo n) a b many many' s o r v = v

pub limits_lose_nothing : Rests → TemplatesKeepLimits → LongTextsAreRefused → LimitsLoseNothing
limits_lose_nothing rests keep refused command bytes s o r =
    elim (cases_lt (length bytes) (limit_of command)) [
      | inl few ↦
          let all : take (limit_of command) bytes ≡ bytes = take_all (limit_of command) bytes (omega (arith, few)) in
          (subst (λ (b : List ℕ). Answers command b s o r) all, subst (λ (b : List ℕ). Answers command b s o r) (sym all))
      | inr many ↦
          let front : length (take (limit_of command) bytes) ≡ limit_of command = length-take-le (limit_of command) bytes many in
          (long_answer rests keep refused command (take (limit_of command) bytes) bytes (omega (arith, front)) many s o r, long_answer rests keep refused command bytes (take (limit_of command) bytes) many (omega (arith, front)) s o r)
    ]

-- ---- what is told to `out`

reported_gen : (effort : Effort) (bytes : List ℕ) (s : ℕ) (o r : List ℕ) → GenAnswers effort bytes s o r → s ≢ 0 → s ≢ 10 → o ≡ []
reported_gen effort bytes s o r (inl a) some other = absurd (some a.0)
reported_gen effort bytes s o r (inr a) some other = a.0

reported_replay : (bytes : List ℕ) (s : ℕ) (o r : List ℕ) → ReplayAnswers bytes s o r → s ≢ 0 → s ≢ 10 → o ≡ []
reported_replay bytes s o r (inl a) some other = absurd (some a.0)
reported_replay bytes s o r (inr (inl a)) some other = a.1
reported_replay bytes s o r (inr (inr a)) some other = absurd (other a.0)

pub refusals_are_reported : RefusalsAreReported
refusals_are_reported (Gen effort) bytes s o r a some other = reported_gen effort bytes s o r a some other
refusals_are_reported Replay bytes s o r a some other = reported_replay bytes s o r a some other
refusals_are_reported (Exec number) bytes s o r a some other = reported_exec number bytes s o r a some other
refusals_are_reported Show bytes s o r a some other = reported_show bytes s o r a some other
refusals_are_reported (Demo n) bytes s o r a some other = reported_demo n s o r a some other

-- ---- how long texts are

-- the laws of lengths
pub record Lengths : Type 0 where
  pub files : FilesHaveTheirLengths
  pub report : (c : Cert) → IsWellFormed c → length (report_text c) < 16777216
  pub fault : (f : Fault) → length (fault_text f) ≤ 256
  pub malformed : (part : ℕ) → length (malformed_text part) ≤ 256
  pub verdict : (v : Verdict) → length (verdict_text v) ≤ 256
  pub gave_up : (none_fits spent last_line : ℕ) → length (gave_up_text none_fits spent last_line) ≤ 256
  pub summary : (n : ℕ) (c : Cert) → length (summary_text n c) < 16777216

short_line : Lengths → (text line : List ℕ) → IsTemplateLine text line → length line < 16777216
short_line lengths text line why = omega (arith, ap length why.2, lengths.fault why.0)

short_refusal : Lengths → (effort : Effort) (text : List ℕ) (status : ℕ) (line : List ℕ) → IsRefusal effort text status line → length line < 16777216
short_refusal lengths effort text status line (inl why) = short_line lengths text line why.1
short_refusal lengths effort text status line (inr up) = omega (arith, ap length up.1.line_is, lengths.gave_up up.1.none_fits up.1.spent up.1.last_line)

short_gen : Lengths → (effort : Effort) (bytes : List ℕ) (s : ℕ) (o r : List ℕ) → GenAnswers effort bytes s o r → (length o < 16777216) × (length r < 16777216)
short_gen lengths effort bytes s o r (inl a) =
    (omega (arith, ap length a.1.out_is, lengths.files a.1.certificate, a.1.test.found.well_formed.size), omega (arith, ap length a.1.report_is, lengths.report a.1.certificate a.1.test.found.well_formed))
short_gen lengths effort bytes s o r (inr a) = (omega (arith, ap length a.0), short_refusal lengths effort bytes s r a.1)

short_replay : Lengths → (bytes : List ℕ) (s : ℕ) (o r : List ℕ) → ReplayAnswers bytes s o r → (length o < 16777216) × (length r < 16777216)
short_replay lengths bytes s o r (inl a) = (omega (arith, ap length a.2, lengths.verdict Yes), omega (arith, ap length a.3))
short_replay lengths bytes s o r (inr (inl a)) = (omega (arith, ap length a.1), omega (arith, ap length a.2.line_is, lengths.malformed a.2.part))
short_replay lengths bytes s o r (inr (inr a)) = (omega (arith, ap length a.1.line_is, lengths.verdict (No a.1.kind a.1.hart a.1.step)), omega (arith, ap length a.2))

short_exec : Lengths → (number : ℕ) (bytes : List ℕ) (s : ℕ) (o r : List ℕ) → ExecAnswers number bytes s o r → length r < 16777216
short_exec lengths number bytes s o r (inl a) = omega (arith, ap length a.2)
short_exec lengths number bytes s o r (inr (inl a)) = omega (arith, ap length a.2.line_is, lengths.malformed a.2.part)
short_exec lengths number bytes s o r (inr (inr a)) = omega (arith, ap length a.2)

short_show : Lengths → (bytes : List ℕ) (s : ℕ) (o r : List ℕ) → ShowAnswers bytes s o r → (length o < 16777216) × (length r < 16777216)
short_show lengths bytes s o r (inl a) = (omega (arith, ap length a.1.text_is, lengths.report a.1.certificate a.1.file.well_formed), omega (arith, ap length a.2))
short_show lengths bytes s o r (inr a) = (omega (arith, ap length a.1), omega (arith, ap length a.2.line_is, lengths.malformed a.2.part))

short_demo : Lengths → (n s : ℕ) (o r : List ℕ) → DemoAnswers n s o r → (length o < 16777216) × (length r < 16777216)
short_demo lengths n s o r (inl a) = (omega (arith, ap length a.1.text_is, lengths.summary n a.1.certificate), omega (arith, ap length a.2))
short_demo lengths n s o r (inr a) = (omega (arith, ap length a.1), omega (arith, ap length a.2.line_is, lengths.gave_up a.2.none_fits a.2.spent a.2.last_line))

pub texts_are_short : Lengths → TextsAreShort
texts_are_short lengths (Gen effort) bytes s o r a = short_gen lengths effort bytes s o r a
texts_are_short lengths Replay bytes s o r a = short_replay lengths bytes s o r a
texts_are_short lengths (Exec number) bytes s o r a = short_exec lengths number bytes s o r a
texts_are_short lengths Show bytes s o r a = short_show lengths bytes s o r a
texts_are_short lengths (Demo n) bytes s o r a = short_demo lengths n s o r a
