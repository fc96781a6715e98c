-- `exec` has one answer at most.
use Rattle.std.proofs.Common.{◌≡◌, ◌≢◌, ℕ, ◌<◌, ◌≤◌, inl, inr, List, [], ◌++◌, length, sym, ◌∙◌, ap, None, arith}
use Rattle.std.specs.List.{AllByRecursion}
use Rattle.tpl_admit.specs.declared.certificate.Cert.{Cert}
use Rattle.elf_image.specs.Told.{Told, told}
use Rattle.replay_check.specs.declared.verdict.Verdict.TheVariants.{No}
use Rattle.trace_text.specs.Events.{events_text}
use Rattle.trace_text.specs.Verdicts.{verdict_text}
use Rattle.tool_texts.specs.Exec.{ExecAnswers, IsRunOfFile, IsRunOfWrongFile, drawn_run, run_text}
use Rattle.tool_texts.specs.Files.{IsFileOf}
use Rattle.tool_texts.proofs.Files.{file_short, long_malformed, one_malformed, one_told}
use Rattle.tool_texts.proofs.Replays.{Rests, failure_moved}
use Rattle.tool_texts.proofs.Runs.{events_same, run_same}
use Rattle.tool_texts.proofs.Told.{told_same}

module _ (rests : Rests) (number : ℕ) (bytes : List ℕ) where
  -- certificates of one file run alike
  run_moved : (a b : Cert) → IsFileOf bytes a → IsFileOf bytes b → run_text number a ≡ run_text number b
  run_moved a b f g =
      let same : told a ≡ told b = one_told rests.spelling bytes a b f g in
      run_same number a b.template (ap (λ (x : Told). x.said.ram) same) ∙ ap (λ (c : Cert). run_text number c) (told_same a b same)

  events_moved : (a b : Cert) → IsFileOf bytes a → IsFileOf bytes b → events_text (drawn_run number a).events None ≡ events_text (drawn_run number b).events None
  events_moved a b f g =
      let same : told a ≡ told b = one_told rests.spelling bytes a b f g in
      events_same number a b.template (ap (λ (x : Told). x.said.ram) same) ∙ ap (λ (c : Cert). events_text (drawn_run number c).events None) (told_same a b same)

  one_run : (l m : List ℕ) → IsRunOfFile number bytes l → IsRunOfFile number bytes m → l ≡ m
  one_run l m v w = v.text_is ∙ events_moved v.certificate w.certificate v.file w.file ∙ sym w.text_is

  no_wrong_run : (l m : List ℕ) → IsRunOfFile number bytes l → IsRunOfWrongFile number bytes m → ⊥
  no_wrong_run l m v w =
      rests.valid v.certificate w.kind w.hart w.step (failure_moved rests bytes w.certificate v.certificate w.file v.file w.kind w.hart w.step w.failure) v.valid

  one_wrong_run : (l m : List ℕ) → IsRunOfWrongFile number bytes l → IsRunOfWrongFile number bytes m → l ≡ m
  one_wrong_run l m v w =
      let moved = failure_moved rests bytes w.certificate v.certificate w.file v.file w.kind w.hart w.step w.failure in
      let same = rests.failure v.certificate v.kind v.hart v.step w.kind w.hart w.step v.failure moved in
      v.text_is ∙ (λ i. run_moved v.certificate w.certificate v.file w.file i ++ verdict_text (No (same.0 i) (same.1 i) (same.2 i))) ∙ sym w.text_is

  pub one_exec : AllByRecursion (λ b. b < 256) bytes → (s : ℕ) (o r : List ℕ) → ExecAnswers number bytes s o r
      → (s' : ℕ) (o' r' : List ℕ) → ExecAnswers number bytes s' o' r' → (s ≡ s') × (o ≡ o') × (r ≡ r')
  one_exec fits s o r (inl a) s' o' r' (inl b) = (a.0 ∙ sym b.0, one_run o o' a.1 b.1, a.2 ∙ sym b.2)
  one_exec fits s o r (inl a) s' o' r' (inr (inl b)) = absurd (b.2.none a.1.certificate a.1.file)
  one_exec fits s o r (inl a) s' o' r' (inr (inr b)) = absurd (no_wrong_run o o' a.1 b.1)
  one_exec fits s o r (inr (inl a)) s' o' r' (inl b) = absurd (a.2.none b.1.certificate b.1.file)
  one_exec fits s o r (inr (inl a)) s' o' r' (inr (inl b)) = (a.0 ∙ sym b.0, a.1 ∙ sym b.1, one_malformed rests.wrong bytes fits r r' a.2 b.2)
  one_exec fits s o r (inr (inl a)) s' o' r' (inr (inr b)) = absurd (a.2.none b.1.certificate b.1.file)
  one_exec fits s o r (inr (inr a)) s' o' r' (inl b) = absurd (no_wrong_run o' o b.1 a.1)
  one_exec fits s o r (inr (inr a)) s' o' r' (inr (inl b)) = absurd (b.2.none a.1.certificate a.1.file)
  one_exec fits s o r (inr (inr a)) s' o' r' (inr (inr b)) = (a.0 ∙ sym b.0, one_wrong_run o o' a.1 b.1, a.2 ∙ sym b.2)

-- to too many bytes it answers alike
pub long_exec : Rests → (number : ℕ) (a b : List ℕ) → 8388609 ≤ length a → 8388609 ≤ length b → (s : ℕ) (o r : List ℕ) → ExecAnswers number a s o r → ExecAnswers number b s o r
long_exec rests number a b many many' s o r (inl v) = absurd (omega (arith, many, file_short rests.lengths a v.1.certificate v.1.file))
long_exec rests number a b many many' s o r (inr (inl w)) = inr (inl (w.0, w.1, long_malformed rests.lengths a b r many many' w.2))
long_exec rests number a b many many' s o r (inr (inr w)) = absurd (omega (arith, many, file_short rests.lengths a w.1.certificate w.1.file))

pub reported_exec : (number : ℕ) (bytes : List ℕ) (s : ℕ) (o r : List ℕ) → ExecAnswers number bytes s o r → s ≢ 0 → s ≢ 10 → o ≡ []
reported_exec number bytes s o r (inl a) some other = absurd (some a.0)
reported_exec number bytes s o r (inr (inl a)) some other = a.1
reported_exec number bytes s o r (inr (inr a)) some other = absurd (other a.0)
