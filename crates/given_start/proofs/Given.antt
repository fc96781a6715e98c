-- Keys to which values are given one after another.
use Rattle.std.proofs.Common.{◌≡◌, ◌≢◌, ℕ, ◌+◌, ◌<◌, ◌≤◌, true, List, [], ◌∷◌, Option, Some, None, if◌then◌else◌, refl, ap, ◌∙◌, subst, inl, inr, arith}
use Rattle.std.specs.Prelude.{nat_eq}
use Rattle.std.specs.List.{AllByRecursion}
use Rattle.std.proofs.lemmas.Bool.{cases_Bool, eqb-true, ne_eqb}
use Rattle.tpl_admit.specs.Starts.{lookup}
use Rattle.tpl_ast.specs.States.{ArePlaces, is_legal_place}

pub found_below : (from : ℕ) (es : List (ℕ × ℕ)) (key : ℕ) → ArePlaces from es → key < from → lookup es key ≡ None
found_below from [] key is below = refl
found_below from (e ∷ es) key is below =
    let other : e.0 ≢ key = λ same. absurd (omega (arith, same, is.0, below)) in
    rw (ne_eqb e.0 key other) (found_below (e.0 + 1) es key is.3 (omega (arith, is.0, below)))

-- the first value, or else the other
abbrev pub or_else : Option ℕ → Option ℕ → Option ℕ
or_else None other = other
or_else (Some v) other = Some v

-- the pairs that are left have keys of places, which ascend, and legal values, and none of the places from the first of them on is known
pub record AreLeft (known : ℕ → Option ℕ) (es : List (ℕ × ℕ)) : Type 0 where
  pub from : ℕ
  pub places : ArePlaces from es
  pub legal : AllByRecursion (λ e. is_legal_place e ≡ true) es
  pub untouched : (key : ℕ) → from ≤ key → known key ≡ None

-- what is known after one more pair was given
abbrev pub also_given : ℕ × ℕ → (ℕ → Option ℕ) → ℕ → Option ℕ
also_given e before key = if nat_eq e.0 key then Some e.1 else before key

pub left_next : (es : List (ℕ × ℕ)) (e : ℕ × ℕ) (rest : List (ℕ × ℕ)) (before after : ℕ → Option ℕ) → es ≡ e ∷ rest → AreLeft before es → ((key : ℕ) → after key ≡ also_given e before key) → AreLeft after rest
left_next es e rest before after split left given =
    let are : ArePlaces left.from (e ∷ rest) = subst (ArePlaces left.from) split left.places in
    let legal : AllByRecursion (λ x. is_legal_place x ≡ true) (e ∷ rest) = subst (AllByRecursion (λ x. is_legal_place x ≡ true)) split left.legal in
    record {
      from = e.0 + 1;
      places = are.3;
      legal = legal.1;
      untouched = λ key above.
          let other : e.0 ≢ key = λ same. absurd (omega (arith, same, above)) in
          given key ∙ rw (ne_eqb e.0 key other) (left.untouched key (omega (arith, are.0, above)));
    }

pub given_next : (es : List (ℕ × ℕ)) (e : ℕ × ℕ) (rest : List (ℕ × ℕ)) (before after : ℕ → Option ℕ) → es ≡ e ∷ rest → AreLeft before es
    → ((key : ℕ) → after key ≡ also_given e before key) → (key : ℕ) → or_else (lookup rest key) (after key) ≡ or_else (lookup es key) (before key)
given_next es e rest before after split left given key =
    let are : ArePlaces left.from (e ∷ rest) = subst (ArePlaces left.from) split left.places in
    rw split (elim (cases_Bool (nat_eq e.0 key)) [
      | inl here ↦
          let same : e.0 ≡ key = eqb-true e.0 key here in
          let none : lookup rest key ≡ None = found_below (e.0 + 1) rest key are.3 (omega (arith, same)) in
          let is : after key ≡ Some e.1 = rw here at (given key) in
          rw (here, none) is
      | inr other ↦ (let is : after key ≡ before key = rw other at (given key) in rw other (ap (or_else (lookup rest key)) is))
    ])
