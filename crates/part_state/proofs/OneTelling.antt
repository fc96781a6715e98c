-- A test has one certificate.
use Rattle.std.proofs.Common.{◌≡◌, ℕ, ◌+◌, ◌*◌, ◌/◌, ◌%◌, ◌≤◌, List, [], ◌∷◌, map, Option, Some, None, refl, sym, ap, ◌∙◌, subst, inl, inr, arith}
use Rattle.std.proofs.lemmas.Bool.{cases_eq, cases_lt, eq-eqb, ne_eqb}
use Rattle.std.proofs.lemmas.Option.{same_Some}
use Rattle.rv_mem.specs.Seen.{known_word}
use Rattle.tpl_ast.specs.declared.template.Template.{Template}
use Rattle.tpl_admit.specs.declared.certificate.Cert.{Cert}
use Rattle.tpl_admit.specs.Starts.{lookup}
use Rattle.part_machine.specs.Whole.{Whole}
use Rattle.part_told.specs.Words.{AreListed}
use Rattle.part_state.specs.Told.{Tells}
use Rattle.part_state.proofs.Begins.{found_low}

-- ---- words by ascending address are told by their values

-- from an address on, two lists give the same values
abbrev AreAlike : ℕ → List (ℕ × ℕ) → List (ℕ × ℕ) → Type 0
AreAlike from es fs = (addr : ℕ) → from ≤ addr → addr % 4 ≡ 0 → lookup es addr ≡ lookup fs addr

none_some : (v : ℕ) → None ≡ Some v → ⊥
none_some v h = absurd (cc h)

module _ (ram : List (ℕ × ℕ)) where
  -- a list that gives no value from its own first address on
  not_past : (from : ℕ) (e : ℕ × ℕ) (es fs : List (ℕ × ℕ)) → AreListed ram from (e ∷ es) → AreAlike from (e ∷ es) fs → AreListed ram (e.0 + 1) fs → ⊥
  not_past from e es fs are alike later =
      none_some e.1 (sym (found_low ram (e.0 + 1) fs e.0 later (omega arith)) ∙ sym (alike e.0 are.0 are.1) ∙ rw (eq-eqb e.0 e.0 refl) refl)

  turned : (from : ℕ) (es fs : List (ℕ × ℕ)) → AreAlike from es fs → AreAlike from fs es
  turned from es fs alike addr above aligned = sym (alike addr above aligned)

  behind : (e : ℕ × ℕ) (es fs : List (ℕ × ℕ)) (v : ℕ) (from : ℕ) → from ≤ e.0 → AreAlike from (e ∷ es) ((e.0, v) ∷ fs) → AreAlike (e.0 + 4) es fs
  behind e es fs v from low alike addr above aligned =
      let other = ne_eqb e.0 addr (λ same. absurd (omega (arith, same, above))) in
      rw other at (alike addr (omega (arith, low, above)) aligned)

  one_list : (from : ℕ) (es fs : List (ℕ × ℕ)) → AreListed ram from es → AreListed ram from fs → AreAlike from es fs → es ≡ fs
  one_list from [] [] are are_so alike = refl
  one_list from [] (f ∷ fs) are are_so alike = absurd (not_past from f fs [] are_so (turned from [] (f ∷ fs) alike) tt)
  one_list from (e ∷ es) [] are are_so alike = absurd (not_past from e es [] are alike tt)
  one_list from (e ∷ es) (f ∷ fs) are are_so alike = elim (cases_eq e.0 f.0) [
    | inl same ↦
        let value : e.1 ≡ f.1 = same_Some e.1 f.1 (sym (rw (eq-eqb e.0 e.0 refl) refl) ∙ alike e.0 are.0 are.1 ∙ rw (eq-eqb f.0 e.0 (sym same)) refl) in
        let head : e ≡ f = (λ i. (same i, value i)) in
        let moved : AreAlike from (e ∷ es) ((e.0, f.1) ∷ fs) = subst (λ (n : ℕ). AreAlike from (e ∷ es) ((n, f.1) ∷ fs)) (sym same) alike in
        let rest : es ≡ fs = one_list (e.0 + 4) es fs are.4 (subst (λ (n : ℕ). AreListed ram (n + 4) fs) (sym same) are_so.4) (behind e es fs f.1 from are.0 moved) in
        λ i. head i ∷ rest i
    | inr apart ↦ elim (cases_lt e.0 f.0) [
      | inl less ↦ absurd (not_past from e es (f ∷ fs) are alike (omega (arith, less), are_so.1, are_so.2, are_so.3, are_so.4))
      | inr above ↦ absurd (not_past from f fs (e ∷ es) are_so (turned from (e ∷ es) (f ∷ fs) alike) (omega (arith, above, apart), are.1, are.2, are.3, are.4))
    ]
  ]

-- ---- the certificate

same_values : (xs ys : List ℕ) → map (λ (v : ℕ). Some v) xs ≡ map (λ (v : ℕ). Some v) ys → xs ≡ ys
same_values [] [] h = refl
same_values [] (y ∷ ys) h = absurd (cc h)
same_values (x ∷ xs) [] h = absurd (cc h)
same_values (x ∷ xs) (y ∷ ys) h =
    let head : x ≡ y = same_Some x y (first h) in
    let rest : xs ≡ ys = same_values xs ys (others h) in
    λ i. head i ∷ rest i
  where
    first : {o p : Option ℕ} {os ps : List (Option ℕ)} → o ∷ os ≡ p ∷ ps → o ≡ p
    first h = cc h

    others : {o p : Option ℕ} {os ps : List (Option ℕ)} → o ∷ os ≡ p ∷ ps → os ≡ ps
    others h = cc h

pub telling_is_one : (t : Template) (w : Whole) (a b : Cert) → Tells t w a → Tells t w b → a ≡ b
telling_is_one t w a b tells tells_so =
    let words : a.words ≡ b.words = one_list w.ram 0 a.words b.words tells.words.listed tells_so.words.listed alike in
    let known : map (λ (v : ℕ). Some v) a.last ≡ map (λ (v : ℕ). Some v) b.last = tells.last ∙ ap (λ (es : List (ℕ × ℕ)). map (λ (e : ℕ × ℕ). known_word (w.memory (e.0 / 4))) es) words ∙ sym tells_so.last in
    let last : a.last ≡ b.last = same_values a.last b.last known in
    let template = tells.template ∙ sym tells_so.template in
    let start = tells.start ∙ sym tells_so.start in
    let finals = tells.finals ∙ sym tells_so.finals in
    let traces = tells.traces ∙ sym tells_so.traces in
    let choices = tells.choices ∙ sym tells_so.choices in
    let names = tells.names ∙ sym tells_so.names in
    let dropped = tells.dropped ∙ sym tells_so.dropped in
    λ i. record { start = start i; words = words i; traces = traces i; finals = finals i; last = last i; template = template i; choices = choices i; names = names i; dropped = dropped i }
  where
    alike : AreAlike 0 a.words b.words
    alike addr above aligned =
        let whole : addr / 4 * 4 ≡ addr = omega (arith, aligned) in
        subst (λ (n : ℕ). lookup a.words n ≡ lookup b.words n) whole (tells.words.values (addr / 4) ∙ sym (tells_so.words.values (addr / 4)))
