-- The first line of a text.
use Rattle.std.proofs.Common.{◌≡◌, ℕ, suc, ◌+◌, ◌<◌, Bool, true, false, cond, List, [], ◌∷◌, length, take, drop, refl, sym, ap, ◌∙◌, arith, add-one, eqb, drop-cons, length-drop, ◌-◌}
use Rattle.std.proofs.lemmas.List.{take_all, drop_all}
use Rattle.tpl_lang.specs.Lines.{length_until, lines, to_first}

-- the lines behind the end of the first
abbrev pub behind : List ℕ → List (List ℕ)
behind [] = []
behind (b ∷ bs) = lines bs

until_cases : (b c : ℕ) (cs : List ℕ) (t : Bool) → eqb c b ≡ t → length_until b (c ∷ cs) ≡ cond t 0 (suc (length_until b cs))
until_cases b c cs true is = rw is refl
until_cases b c cs false is = rw (is, add-one) refl

lines_cases : (c : ℕ) (cs : List ℕ) (t : Bool) → eqb c 10 ≡ t → lines (c ∷ cs) ≡ cond t ([] ∷ lines cs) (to_first c (lines cs))
lines_cases c cs t is = rw is refl

pub first_line : (bs : List ℕ) → lines bs ≡ take (length_until 10 bs) bs ∷ behind (drop (length_until 10 bs) bs)
first_line [] = refl
first_line (c ∷ cs) =
    let rest = first_line cs in
    let here : (t : Bool) → eqb c 10 ≡ t → lines (c ∷ cs) ≡ take (length_until 10 (c ∷ cs)) (c ∷ cs) ∷ behind (drop (length_until 10 (c ∷ cs)) (c ∷ cs)) = λ t. elim t as (λ t. eqb c 10 ≡ t → lines (c ∷ cs) ≡ take (length_until 10 (c ∷ cs)) (c ∷ cs) ∷ behind (drop (length_until 10 (c ∷ cs)) (c ∷ cs))) [
      | true ↦ λ is. lines_cases c cs true is ∙ sym (ap (λ (n : ℕ). take n (c ∷ cs) ∷ behind (drop n (c ∷ cs))) (until_cases 10 c cs true is))
      | false ↦ λ is. lines_cases c cs false is ∙ ap (to_first c) rest ∙ sym (ap (λ (n : ℕ). take n (c ∷ cs) ∷ behind (drop n (c ∷ cs))) (until_cases 10 c cs false is))
    ] in here (eqb c 10) refl

pub whole_line : (bs : List ℕ) (n : ℕ) → n ≡ length_until 10 bs → n ≡ length bs → lines bs ≡ bs ∷ []
whole_line bs n is all =
    let e : length_until 10 bs ≡ length bs = sym is ∙ all in
    first_line bs ∙ ap (λ (k : ℕ). take k bs ∷ behind (drop k bs)) e ∙ (λ i. take_all (length bs) bs (omega arith) i ∷ behind (drop_all (length bs) bs (omega arith) i))

pub cut_line : (bs : List ℕ) (n : ℕ) → n ≡ length_until 10 bs → n < length bs → lines bs ≡ take n bs ∷ lines (take (length bs - (n + 1)) (drop (n + 1) bs))
cut_line bs n is lt =
    let rest : List ℕ = drop (suc n) bs in
    let len : length bs - (n + 1) ≡ length rest = omega (arith, length-drop (suc n) bs) in
    let left : take (length bs - (n + 1)) (drop (n + 1) bs) ≡ rest = rw (len, add-one) (take_all (length rest) rest (omega arith)) in
    first_line bs ∙ sym (ap (λ (k : ℕ). take k bs ∷ behind (drop k bs)) is) ∙ ap (λ (l : List ℕ). take n bs ∷ behind l) (drop-cons bs n 0 lt)
    ∙ sym (ap (λ (l : List ℕ). take n bs ∷ lines l) left)
