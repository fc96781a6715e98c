-- How a walk ends, with the entries that it read.
use Rattle.std.proofs.Common.{◌≡◌, ℕ, List, [], ◌∷◌, ◌++◌, map, refl, ap}
use Rattle.rv_script.specs.declared.access.Access.{Access}
use Rattle.rv_script.specs.Folds.{Answer.Does}
use Rattle.sv_walk.specs.Translation.{Reached, At, Fails}
use Rattle.sv_walk.specs.Clauses.{end_of, ended, entry_access}

pub ended_at : (entries : List (ℕ × ℕ)) (r : Reached) → ended entries (end_of r) ≡ Does (map entry_access entries) r
ended_at entries (At addr) = refl
ended_at entries (Fails cause) = refl

pub more_entries : (xs : List (ℕ × ℕ)) (e : ℕ × ℕ) → map entry_access (xs ++ e ∷ []) ≡ map entry_access xs ++ entry_access e ∷ []
more_entries [] e = refl
more_entries (x ∷ xs) e = ap (λ (ys : List Access). entry_access x ∷ ys) (more_entries xs e)
