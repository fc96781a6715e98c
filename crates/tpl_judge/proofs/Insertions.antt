-- A pair among pairs by ascending key.
use Rattle.std.proofs.Common.{◌≡◌, ℕ, suc, ◌≤◌, Bool, true, false, not, cond, ltb, List, [], ◌∷◌, refl, sym, ap, ◌∙◌, add-one, arith}
use Rattle.std.specs.List.{insert, list_all}
use Rattle.std.proofs.lemmas.Bool.{and_from, and_parts, le-ltb, ltb-false, ltb-true, not_from_false}
use Rattle.tpl_lang.specs.Statements.{inserted}
use Rattle.tpl_state.specs.Internal.Ordered.{is_ascending}
use Rattle.tpl_judge.specs.Internal.Entries.{place_of}
use Rattle.tpl_judge.proofs.Searches.{not_below}

place_cases : (key : ℕ) (e : ℕ × ℕ) (es : List (ℕ × ℕ)) (b : Bool) → ltb key e.0 ≡ b → place_of key (e ∷ es) ≡ cond b 0 (suc (place_of key es))
place_cases key e es true is = rw is refl
place_cases key e es false is = rw (is, add-one) refl

inserted_cases : (key value : ℕ) (e : ℕ × ℕ) (es : List (ℕ × ℕ)) (b : Bool) → ltb key e.0 ≡ b → inserted key value (e ∷ es) ≡ cond b ((key, value) ∷ e ∷ es) (e ∷ inserted key value es)
inserted_cases key value e es b is = rw is refl

pub inserted_at : (key value : ℕ) (es : List (ℕ × ℕ)) → insert es (place_of key es) (key, value) ≡ inserted key value es
inserted_at key value [] = refl
inserted_at key value (e ∷ es) =
    let behind = inserted_at key value es in
    let here : (b : Bool) → ltb key e.0 ≡ b → insert (e ∷ es) (place_of key (e ∷ es)) (key, value) ≡ inserted key value (e ∷ es) = λ b. elim b as (λ b. ltb key e.0 ≡ b → insert (e ∷ es) (place_of key (e ∷ es)) (key, value) ≡ inserted key value (e ∷ es)) [
      | true ↦ λ is. ap (λ (n : ℕ). insert (e ∷ es) n (key, value)) (place_cases key e es true is) ∙ sym (inserted_cases key value e es true is)
      | false ↦ λ is. ap (λ (n : ℕ). insert (e ∷ es) n (key, value)) (place_cases key e es false is) ∙ ap (λ (l : List (ℕ × ℕ)). e ∷ l) behind ∙ sym (inserted_cases key value e es false is)
    ] in here (ltb key e.0) refl

-- ---- the order stays

all_above : (low high : ℕ) (es : List (ℕ × ℕ)) → low ≤ high → list_all (λ d. not (ltb d.0 high)) es ≡ true → list_all (λ d. not (ltb d.0 low)) es ≡ true
all_above low high [] less all = refl
all_above low high (d ∷ es) less all =
    let parts = and_parts (not (ltb d.0 high)) (list_all (λ d. not (ltb d.0 high)) es) all in
    and_from (not (ltb d.0 low)) (list_all (λ d. not (ltb d.0 low)) es)
    (not_from_false (ltb d.0 low) (le-ltb d.0 low (omega (arith, less, not_below d.0 high parts.0))))
    (all_above low high es less parts.1)

all_inserted : (low key value : ℕ) (es : List (ℕ × ℕ)) → low ≤ key → list_all (λ d. not (ltb d.0 low)) es ≡ true → list_all (λ d. not (ltb d.0 low)) (inserted key value es) ≡ true
all_inserted low key value [] le all = and_from (not (ltb key low)) true (not_from_false (ltb key low) (le-ltb key low le)) refl
all_inserted low key value (e ∷ es) le all = go (ltb key e.0) (all_inserted low key value es le parts.1)
  where
    own : not (ltb key low) ≡ true
    own = not_from_false (ltb key low) (le-ltb key low le)

    parts : (not (ltb e.0 low) ≡ true) × (list_all (λ d. not (ltb d.0 low)) es ≡ true)
    parts = and_parts (not (ltb e.0 low)) (list_all (λ d. not (ltb d.0 low)) es) all

    go : (b : Bool) → list_all (λ d. not (ltb d.0 low)) (inserted key value es) ≡ true → list_all (λ d. not (ltb d.0 low)) (cond b ((key, value) ∷ e ∷ es) (e ∷ inserted key value es)) ≡ true
    go true rest = and_from (not (ltb key low)) (list_all (λ d. not (ltb d.0 low)) (e ∷ es)) own all
    go false rest = and_from (not (ltb e.0 low)) (list_all (λ d. not (ltb d.0 low)) (inserted key value es)) parts.0 rest

pub still_ascending : (key value : ℕ) (es : List (ℕ × ℕ)) → is_ascending es ≡ true → is_ascending (inserted key value es) ≡ true
still_ascending key value [] order = refl
still_ascending key value (e ∷ es) order = go (ltb key e.0) refl (still_ascending key value es parts.1)
  where
    parts : (list_all (λ d. not (ltb d.0 e.0)) es ≡ true) × (is_ascending es ≡ true)
    parts = and_parts (list_all (λ d. not (ltb d.0 e.0)) es) (is_ascending es) order

    go : (b : Bool) → ltb key e.0 ≡ b → is_ascending (inserted key value es) ≡ true → is_ascending (cond b ((key, value) ∷ e ∷ es) (e ∷ inserted key value es)) ≡ true
    go true is rest =
        let below : key ≤ e.0 = omega (arith, ltb-true key e.0 is) in
        and_from (list_all (λ d. not (ltb d.0 key)) (e ∷ es)) (is_ascending (e ∷ es))
        (and_from (not (ltb e.0 key)) (list_all (λ d. not (ltb d.0 key)) es) (not_from_false (ltb e.0 key) (le-ltb e.0 key below)) (all_above key e.0 es below parts.0)) order
    go false is rest = and_from (list_all (λ d. not (ltb d.0 e.0)) (inserted key value es)) (is_ascending (inserted key value es)) (all_inserted e.0 key value es (ltb-false key e.0 is) parts.0) rest
