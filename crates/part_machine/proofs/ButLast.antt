-- Lists without their last item.
use Rattle.std.proofs.Common.{◌≡◌, ℕ, ◌-◌, List, [], ◌∷◌, ◌++◌, length, length-append, take, ap, ◌∙◌, arith}
use Rattle.std.proofs.lemmas.List.{take_at}
use Rattle.part_machine.specs.ButLast.{but_last}

pub but_last_append : {A : Type 0} → (xs : List A) (x : A) → but_last (xs ++ x ∷ []) ≡ xs
but_last_append {A} xs x =
    let size : length (xs ++ x ∷ []) - 1 ≡ length xs = omega (arith, length-append xs (x ∷ [])) in
    ap (λ (n : ℕ). take n (xs ++ x ∷ [])) size ∙ take_at xs (x ∷ []) (length xs) (omega arith)
