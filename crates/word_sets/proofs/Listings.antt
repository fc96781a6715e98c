-- What tables have at their indices.
use Rattle.std.proofs.Common.{◌≡◌, ℕ, ◌≤◌, ◌==◌, ⊎_elim, not, true, false, List, [], ◌∷◌, ◌++◌, Option, Some, None, IsTrue, length, slice_get, get_or, nat_lt, refl, sym, ap, ◌∙◌, subst, arith}
use Rattle.std.proofs.lemmas.Bool.{ltb-true}
use Rattle.std.proofs.lemmas.Bool.Decides.{nat_tests}
use Rattle.std.proofs.lemmas.Option.{slice_get_read}
use Rattle.dom_set.specs.Elements.{is_in}
use Rattle.set_sums.proofs.Spans.{pushed_has, pushed_kept, pushed_splits}
use Rattle.word_sets.specs.Internal.Tables.{AreListed, AreOthers, AreRefused, is_listed, is_other, is_refused}

-- the entry that a read of the table gave
pub entry_at : (table : List (Option ℕ)) (i v : ℕ) (e : Option ℕ) → e ≡ Some v → true ≡ nat_lt i (length table) → e ≡ get_or table i e → slice_get table i ≡ Some (Some v)
entry_at table i v e is below at_i = slice_get_read table (length table) i e refl (ltb-true i (length table) (sym below)) at_i ∙ ap Some is

at_place : (i j : ℕ) → (i ≤ j) × (j ≤ i) → i ≡ j
at_place i j h = omega (arith, h.0, h.1)

refused_pushed : (table : List (Option ℕ)) (values : List ℕ) (indices : List (ℕ × ℕ)) (i v : ℕ) → slice_get table i ≡ Some (Some v) → is_in values v ≡ false → AreRefused table values indices → AreRefused table values (indices ++ (i, i) ∷ [])
refused_pushed table values indices i v entry out before j h = ⊎_elim
    (λ k. before j k)
    (λ k. subst (λ (n : ℕ). IsTrue (is_refused values (slice_get table n))) (at_place i j k) (subst (λ (e : Option (Option ℕ)). IsTrue (is_refused values e)) (sym entry) (ap not out)))
    (pushed_splits indices (i, i) j h)

pub refused_more : (table : List (Option ℕ)) (values : List ℕ) (indices new : List (ℕ × ℕ)) (i v : ℕ) → slice_get table i ≡ Some (Some v) → is_in values v ≡ false → AreRefused table values indices → new ≡ indices ++ (i, i) ∷ [] → AreRefused table values new
refused_more table values indices new i v entry out before is = subst (AreRefused table values) (sym is) (refused_pushed table values indices i v entry out before)

unequal : (a b : ℕ) → (a ≡ b → ⊥) → (a == b) ≡ false
unequal a b apart = grind (arith, nat_tests)

others_pushed : (table : List (Option ℕ)) (indices : List (ℕ × ℕ)) (i v : ℕ) → slice_get table i ≡ Some (Some v) → (v ≡ i → ⊥) → AreOthers table indices → AreOthers table (indices ++ (i, i) ∷ [])
others_pushed table indices i v entry other before j h = ⊎_elim
    (λ k. before j k)
    (λ k. subst (λ (n : ℕ). IsTrue (is_other n (slice_get table n))) (at_place i j k) (subst (λ (e : Option (Option ℕ)). IsTrue (is_other i e)) (sym entry) (ap not (unequal v i other))))
    (pushed_splits indices (i, i) j h)

pub others_more : (table : List (Option ℕ)) (indices new : List (ℕ × ℕ)) (i v : ℕ) → slice_get table i ≡ Some (Some v) → (v ≡ i → ⊥) → AreOthers table indices → new ≡ indices ++ (i, i) ∷ [] → AreOthers table new
others_more table indices new i v entry other before is = subst (AreOthers table) (sym is) (others_pushed table indices i v entry other before)

listed_kept : (e : Option (Option ℕ)) (values : List (ℕ × ℕ)) (span : ℕ × ℕ) → IsTrue (is_listed values e) → IsTrue (is_listed (values ++ span ∷ []) e)
listed_kept (Some (Some v)) values span h = pushed_kept values span v h
listed_kept (Some None) values span h = h
listed_kept None values span h = h

listed_pushed : (table : List (Option ℕ)) (indices values : List (ℕ × ℕ)) (i v : ℕ) → slice_get table i ≡ Some (Some v) → AreListed table indices values → AreListed table (indices ++ (i, i) ∷ []) (values ++ (v, v) ∷ [])
listed_pushed table indices values i v entry before j h = ⊎_elim
    (λ k. listed_kept (slice_get table j) values (v, v) (before j k))
    (λ k. subst (λ (n : ℕ). IsTrue (is_listed (values ++ (v, v) ∷ []) (slice_get table n))) (at_place i j k) (subst (λ (e : Option (Option ℕ)). IsTrue (is_listed (values ++ (v, v) ∷ []) e)) (sym entry) (pushed_has values (v, v) v (omega arith) (omega arith))))
    (pushed_splits indices (i, i) j h)

pub listed_more : (table : List (Option ℕ)) (indices values more_indices more_values : List (ℕ × ℕ)) (i v : ℕ) → slice_get table i ≡ Some (Some v) → AreListed table indices values → more_indices ≡ indices ++ (i, i) ∷ [] → more_values ≡ values ++ (v, v) ∷ [] → AreListed table more_indices more_values
listed_more table indices values more_indices more_values i v entry before is is_values = subst (λ (d : List (ℕ × ℕ)). AreListed table d more_values) (sym is) (subst (λ (d : List (ℕ × ℕ)). AreListed table (indices ++ (i, i) ∷ []) d) (sym is_values) (listed_pushed table indices values i v entry before))
