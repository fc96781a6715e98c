-- `replay` has one answer at most.
use Rattle.std.proofs.Common.{◌≡◌, ℕ, ◌<◌, ◌≤◌, inl, inr, List, length, sym, ◌∙◌, ap, subst, arith}
use Rattle.std.specs.List.{AllByRecursion}
use Rattle.tpl_ast.specs.Laws.{LinesTellExpansions}
use Rattle.tpl_admit.specs.declared.certificate.Cert.{Cert}
use Rattle.replay_check.specs.Failures.{IsFirstFailure}
use Rattle.tpl_admit.specs.Laws.{SaidDecides}
use Rattle.tpl_admit.specs.Validity.{IsValid}
use Rattle.elf_image.specs.Told.{Told, told}
use Rattle.replay_check.specs.declared.verdict.Verdict.TheVariants.{No}
use Rattle.trace_text.specs.Verdicts.{verdict_text}
use Rattle.tool_texts.specs.Files.{IsFileOf}
use Rattle.tool_texts.specs.Replay.{IsValidFile, IsWrongFile, ReplayAnswers}
use Rattle.tool_texts.proofs.Failures.{failure_same}
use Rattle.tool_texts.proofs.Files.{FilesHaveTheirLengths, OneFirstWrong, OneSpelling, file_short, long_malformed, one_malformed, one_told}
use Rattle.tool_texts.proofs.Told.{told_same}

-- the laws of checks
abbrev pub ValidHasNoFailure : Type 0
ValidHasNoFailure = (c : Cert) (kind hart step : ℕ) → IsFirstFailure c kind hart step → IsValid c → ⊥

abbrev pub OneFailure : Type 0
OneFailure = (c : Cert) (kind hart step kind' hart' step' : ℕ) → IsFirstFailure c kind hart step → IsFirstFailure c kind' hart' step' → (kind ≡ kind') × (hart ≡ hart') × (step ≡ step')

-- what `replay` rests on
pub record Rests : Type 0 where
  pub spelling : OneSpelling
  pub wrong : OneFirstWrong
  pub lengths : FilesHaveTheirLengths
  pub valid : ValidHasNoFailure
  pub failure : OneFailure
  pub decides : SaidDecides
  pub layouts : LinesTellExpansions

-- certificates of one file fail alike
pub failure_moved : Rests → (bytes : List ℕ) (a b : Cert) → IsFileOf bytes a → IsFileOf bytes b → (kind hart step : ℕ) → IsFirstFailure a kind hart step → IsFirstFailure b kind hart step
failure_moved rests bytes a b f g kind hart step is =
    let same : told a ≡ told b = one_told rests.spelling bytes a b f g in
    subst (λ (c : Cert). IsFirstFailure c kind hart step) (told_same a b same) (failure_same rests.layouts a b.template (ap (λ (x : Told). x.said) same) kind hart step is)

no_wrong : Rests → (bytes line : List ℕ) → IsValidFile bytes → IsWrongFile bytes line → ⊥
no_wrong rests bytes line v w =
    rests.valid v.certificate w.kind w.hart w.step (failure_moved rests bytes w.certificate v.certificate w.file v.file w.kind w.hart w.step w.failure) v.valid

one_wrong : Rests → (bytes l m : List ℕ) → IsWrongFile bytes l → IsWrongFile bytes m → l ≡ m
one_wrong rests bytes l m v w =
    let moved = failure_moved rests bytes w.certificate v.certificate w.file v.file w.kind w.hart w.step w.failure in
    let same = rests.failure v.certificate v.kind v.hart v.step w.kind w.hart w.step v.failure moved in
    v.line_is ∙ (λ i. verdict_text (No (same.0 i) (same.1 i) (same.2 i))) ∙ sym w.line_is

pub one_replay : Rests → (bytes : List ℕ) → AllByRecursion (λ b. b < 256) bytes → (s : ℕ) (o r : List ℕ) → ReplayAnswers bytes s o r
    → (s' : ℕ) (o' r' : List ℕ) → ReplayAnswers bytes s' o' r' → (s ≡ s') × (o ≡ o') × (r ≡ r')
one_replay rests bytes fits s o r (inl a) s' o' r' (inl b) = (a.0 ∙ sym b.0, a.2 ∙ sym b.2, a.3 ∙ sym b.3)
one_replay rests bytes fits s o r (inl a) s' o' r' (inr (inl b)) = absurd (b.2.none a.1.certificate a.1.file)
one_replay rests bytes fits s o r (inl a) s' o' r' (inr (inr b)) = absurd (no_wrong rests bytes o' a.1 b.1)
one_replay rests bytes fits s o r (inr (inl a)) s' o' r' (inl b) = absurd (a.2.none b.1.certificate b.1.file)
one_replay rests bytes fits s o r (inr (inl a)) s' o' r' (inr (inl b)) = (a.0 ∙ sym b.0, a.1 ∙ sym b.1, one_malformed rests.wrong bytes fits r r' a.2 b.2)
one_replay rests bytes fits s o r (inr (inl a)) s' o' r' (inr (inr b)) = absurd (a.2.none b.1.certificate b.1.file)
one_replay rests bytes fits s o r (inr (inr a)) s' o' r' (inl b) = absurd (no_wrong rests bytes o b.1 a.1)
one_replay rests bytes fits s o r (inr (inr a)) s' o' r' (inr (inl b)) = absurd (b.2.none a.1.certificate a.1.file)
one_replay rests bytes fits s o r (inr (inr a)) s' o' r' (inr (inr b)) = (a.0 ∙ sym b.0, one_wrong rests bytes o o' a.1 b.1, a.2 ∙ sym b.2)

-- to too many bytes it answers alike
pub long_replay : Rests → (a b : List ℕ) → 8388609 ≤ length a → 8388609 ≤ length b → (s : ℕ) (o r : List ℕ) → ReplayAnswers a s o r → ReplayAnswers b s o r
long_replay rests a b many many' s o r (inl v) = absurd (omega (arith, many, file_short rests.lengths a v.1.certificate v.1.file))
long_replay rests a b many many' s o r (inr (inl w)) = inr (inl (w.0, w.1, long_malformed rests.lengths a b r many many' w.2))
long_replay rests a b many many' s o r (inr (inr w)) = absurd (omega (arith, many, file_short rests.lengths a w.1.certificate w.1.file))
