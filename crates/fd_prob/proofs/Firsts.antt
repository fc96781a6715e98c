-- The first element that passes a test.
use Rattle.std.proofs.Common.{◌≡◌, ℕ, Bool, true, false, cond, List, [], ◌∷◌, Option, Some, None, find, refl, sym, ap, ◌∙◌}
use Rattle.std.specs.Prelude.{slice_get}
use Rattle.std.specs.Option.{option_or}
use Rattle.std.proofs.lemmas.Option.{same_Some}

-- the tests of the first element are told apart
clash : (test : ℕ → Bool) (y x : ℕ) (a b : Bool) → y ≡ x → test y ≡ a → test x ≡ b → a ≡ b
clash test y x a b same first second = sym first ∙ ap test same ∙ second

found_in : (test : ℕ → Bool) (y x : ℕ) (rest : Option ℕ) → option_or rest (Some y) ≡ Some x → test y ≡ false → test x ≡ true → rest ≡ Some x
found_in test y x None is fails passes = absurd (cc (clash test y x false true (same_Some y x is) fails passes))
found_in test y x (Some w) is fails passes = is

none_in : (test : ℕ → Bool) (ys : List ℕ) (y x : ℕ) → option_or (find test ys) (Some y) ≡ Some x → test y ≡ false → test x ≡ false → ((w : ℕ) → find test ys ≡ Some w → test w ≡ true) → find test ys ≡ None
none_in test ys y x is fails lacks passing =
    elim (find test ys) as (λ o. option_or o (Some y) ≡ Some x → ((w : ℕ) → o ≡ Some w → test w ≡ true) → o ≡ None) [
      | None ↦ λ _ _. refl
      | Some w ↦ λ e p. absurd (cc (clash test w x true false (same_Some w x e) (p w refl) lacks))
    ] is passing

-- what is found passes
pub passes : (test : ℕ → Bool) (xs : List ℕ) (w : ℕ) → find test xs ≡ Some w → test w ≡ true
passes test [] w is = absurd (cc is)
passes test (y ∷ ys) w is =
    elim (test y) as (λ b. test y ≡ b → cond b (Some y) (find test ys) ≡ Some w → test w ≡ true) [
      | true ↦ λ t e. ap test (sym (same_Some y w e)) ∙ t
      | false ↦ λ t e. passes test ys w e
    ] refl is

pub found : (test : ℕ → Bool) (xs : List ℕ) (x : ℕ) → option_or (find test xs) (slice_get xs 0) ≡ Some x → test x ≡ true → find test xs ≡ Some x
found test [] x is t = absurd (cc is)
found test (y ∷ ys) x is t =
    elim (test y) as (λ b. test y ≡ b → option_or (cond b (Some y) (find test ys)) (Some y) ≡ Some x → cond b (Some y) (find test ys) ≡ Some x) [
      | true ↦ λ _ e. e
      | false ↦ λ f e. found_in test y x (find test ys) e f t
    ] refl is

pub none_found : (test : ℕ → Bool) (xs : List ℕ) (x : ℕ) → option_or (find test xs) (slice_get xs 0) ≡ Some x → test x ≡ false → find test xs ≡ None
none_found test [] x is t = absurd (cc is)
none_found test (y ∷ ys) x is t =
    elim (test y) as (λ b. test y ≡ b → option_or (cond b (Some y) (find test ys)) (Some y) ≡ Some x → cond b (Some y) (find test ys) ≡ None) [
      | true ↦ λ p e. absurd (cc (clash test y x true false (same_Some y x e) p t))
      | false ↦ λ f e. none_in test ys y x e f t (passes test ys)
    ] refl is
