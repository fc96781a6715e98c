-- Events one after another, with the steps of each hart counted.
use Rattle.std.proofs.Common.{◌≡◌, ◌≢◌, ℕ, suc, ◌+◌, ◌<◌, ◌≤◌, List, [], ◌∷◌, ◌++◌, length, take, drop, get_or, append_assoc, append-nil, refl, sym, ap, ◌∙◌, inl, inr, arith}
use Rattle.std.specs.Prelude.{slice_index, slice_set}
use Rattle.std.proofs.lemmas.Bool.{cases_eq, eq-eqb, ne_eqb}
use Rattle.std.proofs.lemmas.List.{get_or-set_same, get_or-set_other, drop_all, drop_more, take_all, take_more}
use Rattle.rv_hart.specs.declared.record.Record.{Record}
use Rattle.trace_text.specs.Events.{event_lines, steps_of}
use Rattle.trace_text.specs.Steps.{step_line}

pub steps_few : (k : ℕ) (es : List (ℕ × Record)) → steps_of k es ≤ length es
steps_few k [] = omega arith
steps_few k (e ∷ es) = elim (cases_eq k e.0) [
  | inl same ↦ rw (eq-eqb k e.0 same) (omega (arith, steps_few k es))
  | inr other ↦ rw (ne_eqb k e.0 other) (omega (arith, steps_few k es))
]

-- an event more
steps_here : (k : ℕ) (es : List (ℕ × Record)) (e : ℕ × Record) → k ≡ e.0 → steps_of k (es ++ e ∷ []) ≡ steps_of k es + 1
steps_here k [] e same = rw (eq-eqb k e.0 same) refl
steps_here k (x ∷ es) e same = elim (cases_eq k x.0) [
  | inl first ↦
      let rest : steps_of k (es ++ e ∷ []) ≡ steps_of k es + 1 = steps_here k es e same in
      rw (eq-eqb k x.0 first) (omega (arith, rest))
  | inr other ↦ rw (ne_eqb k x.0 other) (steps_here k es e same)
]

steps_there : (k : ℕ) (es : List (ℕ × Record)) (e : ℕ × Record) → k ≢ e.0 → steps_of k (es ++ e ∷ []) ≡ steps_of k es
steps_there k [] e apart = rw (ne_eqb k e.0 apart) refl
steps_there k (x ∷ es) e apart = elim (cases_eq k x.0) [
  | inl first ↦ rw (eq-eqb k x.0 first) (ap (λ (n : ℕ). suc n) (steps_there k es e apart))
  | inr other ↦ rw (ne_eqb k x.0 other) (steps_there k es e apart)
]

-- so many events are written and counted
pub record AreWritten (first : List ℕ) (events : List (ℕ × Record)) (i : ℕ) (bytes counts : List ℕ) : Type 0 where
  pub text : bytes ++ event_lines (take i events) (drop i events) ≡ first ++ event_lines [] events
  pub counted : (k : ℕ) → k < 256 → slice_index counts k ≡ steps_of k (take i events)
  pub few : (k : ℕ) → slice_index counts k ≤ i

pub none_written : (first : List ℕ) (events : List (ℕ × Record)) (counts : List ℕ) → ((k : ℕ) → slice_index counts k ≡ 0) → AreWritten first events 0 first counts
none_written first events counts none = record { text = refl; counted = λ k small. none k; few = λ k. omega (arith, none k) }

pub one_written : (first : List ℕ) (events : List (ℕ × Record)) (i : ℕ) (bytes after counts new : List ℕ) (e : ℕ × Record) → i < length events → e ≡ get_or events i e → AreWritten first events i bytes counts
    → length counts ≡ 256 → e.0 < 256 → after ≡ bytes ++ step_line e.0 (slice_index counts e.0) e.1 → new ≡ slice_set counts e.0 (slice_index counts e.0 + 1) → AreWritten first events (i + 1) after new
one_written first events i bytes after counts new e within is was size small pushed set = record {
  text = ap (λ (b : List ℕ). b ++ event_lines (take (i + 1) events) rest) (pushed ∙ ap (λ (n : ℕ). bytes ++ step_line e.0 n e.1) (was.counted e.0 small))
      ∙ append_assoc bytes (step_line e.0 (steps_of e.0 before) e.1) (event_lines (take (i + 1) events) rest)
      ∙ ap (λ (b : List (ℕ × Record)). bytes ++ (step_line e.0 (steps_of e.0 before) e.1 ++ event_lines b rest)) more
      ∙ ap (λ (es : List (ℕ × Record)). bytes ++ event_lines before es) (sym split) ∙ was.text;
  counted = λ k below. elim (cases_eq k e.0) [
    | inl same ↦
        ap (λ (cs : List ℕ). slice_index cs k) set ∙ ap (λ (j : ℕ). slice_index (slice_set counts e.0 (slice_index counts e.0 + 1)) j) same
        ∙ get_or-set_same counts e.0 (slice_index counts e.0 + 1) 0 (omega (arith, size, small)) ∙ ap (λ (n : ℕ). n + 1) (was.counted e.0 small ∙ ap (λ (j : ℕ). steps_of j before) (sym same))
        ∙ sym (ap (λ (es : List (ℕ × Record)). steps_of k es) more ∙ steps_here k before e same)
    | inr other ↦
        ap (λ (cs : List ℕ). slice_index cs k) set ∙ get_or-set_other counts e.0 k (slice_index counts e.0 + 1) 0 other ∙ was.counted k below
        ∙ sym (ap (λ (es : List (ℕ × Record)). steps_of k es) more ∙ steps_there k before e other)
  ];
  few = λ k.
      let now : slice_index new k ≡ slice_index (slice_set counts e.0 (slice_index counts e.0 + 1)) k = ap (λ (cs : List ℕ). slice_index cs k) set in
      elim (cases_eq k e.0) [
        | inl same ↦
            let here : slice_index (slice_set counts e.0 (slice_index counts e.0 + 1)) k ≡ slice_index counts e.0 + 1 =
            ap (λ (j : ℕ). slice_index (slice_set counts e.0 (slice_index counts e.0 + 1)) j) same ∙ get_or-set_same counts e.0 (slice_index counts e.0 + 1) 0 (omega (arith, size, small)) in
            omega (arith, now, here, was.few e.0)
        | inr other ↦
            let there : slice_index (slice_set counts e.0 (slice_index counts e.0 + 1)) k ≡ slice_index counts k = get_or-set_other counts e.0 k (slice_index counts e.0 + 1) 0 other in
            omega (arith, now, there, was.few k)
      ];
}
  where
    before : List (ℕ × Record)
    before = take i events

    rest : List (ℕ × Record)
    rest = drop (i + 1) events

    more : take (i + 1) events ≡ take i events ++ e ∷ []
    more = take_more events i e within ∙ ap (λ (x : ℕ × Record). take i events ++ x ∷ []) (sym is)

    split : drop i events ≡ e ∷ drop (i + 1) events
    split = drop_more events i e within ∙ ap (λ (x : ℕ × Record). x ∷ drop (i + 1) events) (sym is)

-- all events are written
pub all_written : (first : List ℕ) (events : List (ℕ × Record)) (i : ℕ) (bytes counts : List ℕ) → length events ≤ i → AreWritten first events i bytes counts → bytes ≡ first ++ event_lines [] events
all_written first events i bytes counts end was = sym (append-nil bytes) ∙ ap (λ (es : List (ℕ × Record)). bytes ++ event_lines (take i events) es) (sym (drop_all i events end)) ∙ was.text

pub all_counted : (first : List ℕ) (events : List (ℕ × Record)) (i : ℕ) (bytes counts : List ℕ) → length events ≤ i → AreWritten first events i bytes counts → (k : ℕ) → k < 256 → slice_index counts k ≡ steps_of k events
all_counted first events i bytes counts end was k small = was.counted k small ∙ ap (λ (es : List (ℕ × Record)). steps_of k es) (take_all i events end)
