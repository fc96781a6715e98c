-- The values that pairs give to words.
use Rattle.std.proofs.Common.{◌≡◌, ℕ, eqb, List, [], ◌∷◌, ◌++◌, Option, Some, None, refl, ap, ◌∙◌, inl, inr, if◌then◌else◌}
use Rattle.std.specs.Option.{option_or}
use Rattle.std.proofs.lemmas.Bool.{cases_Bool}
use Rattle.part_machine.specs.Whole.{given}

-- the words given with one more
pub given_more : (es : List (ℕ × ℕ)) (n v i : ℕ) → given (es ++ (n, v) ∷ []) i ≡ (if eqb i n then Some v else given es i)
given_more [] n v i = refl
given_more (e ∷ es) n v i =
    ap (λ (o : Option ℕ). option_or o (if eqb i e.0 then Some e.1 else None)) (given_more es n v i)
    ∙ elim (cases_Bool (eqb i n)) [ inl t ↦ rw t refl | inr f ↦ rw f refl ]
