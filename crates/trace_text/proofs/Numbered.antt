-- Lists whose elements are numbered from 0.
use Rattle.std.proofs.Common.{◌≡◌, ℕ, suc, ◌+◌, ◌<◌, List, [], ◌∷◌, ◌++◌, length, take, ap, arith}
use Rattle.std.proofs.lemmas.List.{flat_map_more, take_more, length-take-le}
use Rattle.std.proofs.Math.ListN.{get_or}
use Rattle.std.specs.List.{flat_map, enumerate_from}
use Rattle.rv_hart.specs.declared.record.Record.{Record}
use Rattle.trace_text.specs.Rest.{choice_line, choices_text}
use Rattle.trace_text.specs.Steps.{step_line, steps_text}

-- one more element at the end
pub enumerate_more : {X : Type 0} (n : ℕ) (xs : List X) (x : X) → enumerate_from n (xs ++ x ∷ []) ≡ enumerate_from n xs ++ (n + length xs, x) ∷ []
enumerate_more {X} n [] x = let e : n ≡ n + 0 = omega arith in ap {B = List (ℕ × X)} (λ k. (k, x) ∷ []) e
enumerate_more {X} n (y ∷ ys) x =
    let e : n + 1 + length ys ≡ n + suc (length ys) = omega arith in
    let more : enumerate_from (n + 1) (ys ++ x ∷ []) ≡ enumerate_from (n + 1) ys ++ (n + 1 + length ys, x) ∷ [] = enumerate_more (n + 1) ys x in
    cc

-- the text of the first i elements, and then of element i
pub numbered_more : {X A : Type 0} (f : ℕ × X → List A) (bs : List A) (xs : List X) (i : ℕ) (d : X) → i < length xs → (bs ++ flat_map f (enumerate_from 0 (take i xs))) ++ f (i, get_or xs i d) ≡ bs ++ flat_map f (enumerate_from 0 (take (i + 1) xs))
numbered_more {X} f bs xs i d lt =
    let there : length (take i xs) ≡ i = length-take-le i xs (omega arith) in
    let one : take (i + 1) xs ≡ take i xs ++ get_or xs i d ∷ [] = take_more xs i d lt in
    let numbered : enumerate_from 0 (take i xs ++ get_or xs i d ∷ []) ≡ enumerate_from 0 (take i xs) ++ (0 + length (take i xs), get_or xs i d) ∷ [] = enumerate_more 0 (take i xs) (get_or xs i d) in
    let more : (bs ++ flat_map f (enumerate_from 0 (take i xs))) ++ f (i, get_or xs i d) ≡ bs ++ flat_map f (enumerate_from 0 (take i xs) ++ (i, get_or xs i d) ∷ []) = flat_map_more f bs (enumerate_from 0 (take i xs)) (i, get_or xs i d) in
    let zeroed : 0 + length (take i xs) ≡ i = omega (arith, there) in
    cc

-- one more step
pub steps_more : (hart : ℕ) (bs : List ℕ) (records : List Record) (i : ℕ) (d : Record) → i < length records → (bs ++ steps_text hart (take i records)) ++ step_line hart i (get_or records i d) ≡ bs ++ steps_text hart (take (i + 1) records)
unfolding steps_text
steps_more hart bs records i d lt = numbered_more (λ (p : ℕ × Record). step_line hart p.0 p.1) bs records i d lt

-- one more choice
pub choices_more : (bs : List ℕ) (choices : List ℕ) (i d : ℕ) → i < length choices → (bs ++ choices_text (take i choices)) ++ choice_line i (get_or choices i d) ≡ bs ++ choices_text (take (i + 1) choices)
unfolding choices_text
choices_more bs choices i d lt = numbered_more (λ (p : ℕ × ℕ). choice_line p.0 p.1) bs choices i d lt
