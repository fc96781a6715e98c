-- The forms of new entries, as lists and as sets.
use Rattle.std.proofs.Common.{◌≡◌, ℕ, ◌+◌, ◌<◌, ◌^◌, if◌then◌else◌, Bool, true, false, ◌||◌, List, [], ◌∷◌, ◌++◌, length, get_or, drop, refl, sym, ap, ◌∙◌, append_assoc}
use Rattle.std.specs.Prelude.{filter, nat_eq}
use Rattle.std.specs.List.{list_any}
use Rattle.std.proofs.lemmas.List.{drop_more}
use Rattle.dom_set.specs.Elements.{elements_of, is_in}
use Rattle.dom_set.specs.Laws.{ElementsPass, IsInTests}
use Rattle.row_parts.specs.declared.forms.Forms.{Forms}
use Rattle.row_parts.specs.Forms.{IsOnce, is_first, is_second}
use Rattle.row_parts.proofs.Members.{is_in-elements_of}
use Rattle.addr_rows.proofs.Settings.{in_once}
use Rattle.leaf_link.specs.Turns.{Turn, is_first_form, is_second_form, page_at, pointer_to, superpage_at}
use Rattle.fetch_ways.specs.Ways.{HasForms}

-- WHAT NEW ENTRIES MAY BE
abbrev firsts_by : List ℕ → List ℕ → List ℕ → ℕ → Bool
firsts_by tables pool flags v = list_any (λ frame. nat_eq (pointer_to frame) v) tables || list_any (λ frame. list_any (λ flags. nat_eq (superpage_at frame flags) v) flags) pool

abbrev seconds_by : List ℕ → List ℕ → ℕ → Bool
seconds_by pool flags v = list_any (λ frame. list_any (λ flags. nat_eq (page_at frame flags) v) flags) pool

pub first_same : (t : Turn) (f : Forms) → HasForms t f → (v : ℕ) → is_first f v ≡ is_first_form t v
first_same t f h v =
    sym (ap (λ (xs : List ℕ). firsts_by xs t.pool t.flags v) h.tables ∙ ap (λ (xs : List ℕ). firsts_by f.tables.items xs t.flags v) h.pool ∙ ap (λ (xs : List ℕ). firsts_by f.tables.items f.pool.items xs v) h.flags)

pub second_same : (t : Turn) (f : Forms) → HasForms t f → (v : ℕ) → is_second f v ≡ is_second_form t v
second_same t f h v = sym (ap (λ (xs : List ℕ). seconds_by xs t.flags v) h.pool ∙ ap (λ (xs : List ℕ). seconds_by f.pool.items xs v) h.flags)

-- a list that has each form once, as a set
pub listed_set : ElementsPass → IsInTests → (test : ℕ → Bool) (s vs xs : List ℕ) → s ≡ elements_of (is_in vs) → vs ≡ xs → IsOnce test xs → (v : ℕ) → v < 2 ^ 32 → is_in s v ≡ test v
listed_set pass tests test s vs xs is same once v small =
    ap (λ (ys : List ℕ). is_in ys v) is ∙ is_in-elements_of pass tests (is_in vs) v small ∙ ap (λ (ys : List ℕ). is_in ys v) same ∙ in_once test xs once v

-- WHAT PASSES
filter_first : (p : ℕ → Bool) (x : ℕ) (xs : List ℕ) → filter p (x ∷ xs) ≡ (if p x then x ∷ [] else []) ++ filter p xs
filter_first p x xs = go (p x)
  where
    go : (b : Bool) → (if b then x ∷ filter p xs else filter p xs) ≡ (if b then x ∷ [] else []) ++ filter p xs
    go true = refl
    go false = refl

-- one item more
pub filter_more : (p : ℕ → Bool) (kept new xs all : List ℕ) (i : ℕ) → new ≡ kept ++ (if p (get_or xs i 0) then get_or xs i 0 ∷ [] else []) → i < length xs → kept ++ filter p (drop i xs) ≡ all → new ++ filter p (drop (i + 1) xs) ≡ all
filter_more p kept new xs all i is lt h =
    let x : ℕ = get_or xs i 0 in
    ap (λ (ys : List ℕ). ys ++ filter p (drop (i + 1) xs)) is
    ∙ append_assoc kept (if p x then x ∷ [] else []) (filter p (drop (i + 1) xs))
    ∙ ap (λ (ys : List ℕ). kept ++ ys) (sym (ap (λ (ys : List ℕ). filter p ys) (drop_more xs i 0 lt) ∙ filter_first p x (drop (i + 1) xs)))
    ∙ h
