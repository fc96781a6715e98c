-- Lists of which each item passes.
use Rattle.std.proofs.Common.{◌≡◌, ℕ, zero, suc, ◌+◌, ◌<◌, Bool, true, false, ◌&&◌, List, [], ◌∷◌, length, get_or, drop, refl, sym, ap, ◌∙◌, arith}
use Rattle.std.specs.List.{list_all}
use Rattle.std.proofs.lemmas.List.{drop_more}

and_false : (a : Bool) → (a && false) ≡ false
and_false true = refl
and_false false = refl

-- one that fails
pub fails_at : {X : Type 0} (p : X → Bool) (xs : List X) (i : ℕ) (x : X) → i < length xs → x ≡ get_or xs i x → p x ≡ false → list_all p xs ≡ false
fails_at p [] i x lt is fails = absurd (omega (arith, lt))
fails_at p (y ∷ xs) zero x lt is fails = ap (λ (b : Bool). b && list_all p xs) (ap p (sym is) ∙ fails)
fails_at p (y ∷ xs) (suc i) x lt is fails = ap (λ (b : Bool). p y && b) (fails_at p xs i x (omega (arith, lt)) is fails) ∙ and_false (p y)

-- one that passes may be left out
pub rest_passes : {X : Type 0} (p : X → Bool) (xs : List X) (i : ℕ) (x : X) → i < length xs → x ≡ get_or xs i x → p x ≡ true → list_all p (drop (i + 1) xs) ≡ list_all p (drop i xs)
rest_passes {X} p xs i x lt is passes =
    ap (λ (b : Bool). b && list_all p (drop (i + 1) xs)) (sym passes)
    ∙ sym (ap (λ (l : List X). list_all p l) (drop_more xs i x lt ∙ ap (λ (y : X). y ∷ drop (i + 1) xs) (sym is)))
