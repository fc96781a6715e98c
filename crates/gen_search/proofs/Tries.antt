-- The order in which alternatives are tried.
use Rattle.std.proofs.Common.{◌≡◌, ℕ, zero, suc, ◌+◌, ◌-◌, ◌<◌, ◌≤◌, List, [], ◌∷◌, length, get_or, take, drop, length-drop, length-append, length-take, refl, sym, ap, ◌∙◌, inl, inr, ◌⊎◌, subst, zero-add, arith}
use Rattle.std.proofs.Math.Seq.{get_or-append_right}
use Rattle.std.proofs.lemmas.List.{drop_more, get_or-drop, get_or-take, get_or_append_left, drop_all}
use Rattle.gen_search.specs.Internal.Tries.{IsCyclic}
use Rattle.gen_search.specs.Search.{numbered, cyclically}

pub numbered_length : {A : Type 0} (n : ℕ) (ws : List (ℕ × A)) → length (numbered n ws) ≡ length ws
numbered_length n [] = refl
numbered_length n (w ∷ ws) = ap suc (numbered_length (n + 1) ws)

pub numbered_at : {A : Type 0} (n : ℕ) (ws : List (ℕ × A)) (i : ℕ) (d : ℕ × A) → i < length ws → get_or (numbered n ws) i d ≡ (n + i, (get_or ws i d).1)
numbered_at n [] i d lt = absurd (omega (arith, lt))
numbered_at {A = A} n (w ∷ ws) zero d lt = let e : n ≡ n + 0 = omega arith in ap (λ (k : ℕ). let p : ℕ × A = (k, w.1) in p) e
numbered_at {A = A} n (w ∷ ws) (suc i) d lt =
    let e : n + 1 + i ≡ n + suc i = omega arith in
    numbered_at (n + 1) ws i d (omega (arith, lt)) ∙ ap (λ (k : ℕ). let p : ℕ × A = (k, (get_or ws i d).1) in p) e

pub cyclic_length : {A : Type 0} (p : ℕ) (xs : List A) → p ≤ length xs → length (cyclically p xs) ≡ length xs
cyclic_length p xs le = length-append (drop p xs) (take p xs) ∙ omega (arith, length-drop p xs, length-take p xs)

pub near_or_far : (j n : ℕ) → (j < n) ⊎ (n ≤ j)
near_or_far j zero = inr (omega arith)
near_or_far zero (suc n) = inl (omega arith)
near_or_far (suc j) (suc n) = elim (near_or_far j n) [ inl h ↦ inl (omega (arith, h)) | inr h ↦ inr (omega (arith, h)) ]

pub way_inside : (p j n k : ℕ) → p < n → j < n → IsCyclic p j n k → k < n
way_inside p j n k below inside turn =
    elim (near_or_far j (n - p)) [
      | inl near ↦ omega (arith, turn.straight near, near, below)
      | inr far ↦ omega (arith, turn.wrapped far, far, below, inside)
    ]

pub cyclic_at : {A : Type 0} (p : ℕ) (xs : List A) (j k : ℕ) (d : A) → p < length xs → j < length xs → IsCyclic p j (length xs) k → get_or (cyclically p xs) j d ≡ get_or xs k d
cyclic_at p xs j k d below inside turn =
    elim (near_or_far j (length xs - p)) [
      | inl near ↦ get_or_append_left (drop p xs) (take p xs) d j (omega (arith, near, length-drop p xs)) ∙ get_or-drop p xs j d ∙ ap (λ (n : ℕ). get_or xs n d) (sym (turn.straight near))
      | inr far ↦
          get_or-append_right (drop p xs) (take p xs) j d (omega (arith, far, length-drop p xs))
          ∙ ap (λ (n : ℕ). get_or (take p xs) (j - n) d) (length-drop p xs)
          ∙ get_or-take p xs (j - (length xs - p)) d (omega (arith, far, below, inside))
          ∙ ap (λ (n : ℕ). get_or xs n d) (sym (turn.wrapped far))
    ]

-- the alternatives from one try on: the next one with its number, and those from the next try on
pub next_try : {A : Type 0} (p : ℕ) (ws : List (ℕ × A)) (j k : ℕ) (d : ℕ × A) → p < length ws → j < length ws → IsCyclic p j (length ws) k
    → drop j (cyclically p (numbered 0 ws)) ≡ (k, (get_or ws k d).1) ∷ drop (j + 1) (cyclically p (numbered 0 ws))
next_try {A = A} p ws j k d below inside turn =
    let same : length (numbered 0 ws) ≡ length ws = numbered_length 0 ws in
    let long : length (cyclically p (numbered 0 ws)) ≡ length ws = cyclic_length p (numbered 0 ws) (omega (arith, same, below)) ∙ same in
    let within : k < length ws = way_inside p j (length ws) k below inside turn in
    let turns : IsCyclic p j (length (numbered 0 ws)) k = subst (λ (n : ℕ). IsCyclic p j n k) (sym same) turn in
    let here : get_or (cyclically p (numbered 0 ws)) j d ≡ (k, (get_or ws k d).1) =
    cyclic_at p (numbered 0 ws) j k d (omega (arith, same, below)) (omega (arith, same, inside)) turns
    ∙ numbered_at 0 ws k d within
    ∙ ap (λ (n : ℕ). let q : ℕ × A = (n, (get_or ws k d).1) in q) (zero-add k) in
    drop_more (cyclically p (numbered 0 ws)) j d (omega (arith, long, inside))
    ∙ ap (λ (q : ℕ × A). q ∷ drop (j + 1) (cyclically p (numbered 0 ws))) here

-- no alternative is left behind the last try
pub no_try : {A : Type 0} (p : ℕ) (ws : List (ℕ × A)) (j : ℕ) → p < length ws → length ws ≤ j → drop j (cyclically p (numbered 0 ws)) ≡ []
no_try p ws j below over =
    let same : length (numbered 0 ws) ≡ length ws = numbered_length 0 ws in
    let long : length (cyclically p (numbered 0 ws)) ≡ length ws = cyclic_length p (numbered 0 ws) (omega (arith, same, below)) ∙ same in
    drop_all j (cyclically p (numbered 0 ws)) (omega (arith, long, over))
