-- Frames that are given one after another.
use Rattle.std.proofs.Common.{◌≡◌, ℕ, ◌+◌, ◌<◌, Bool, true, false, ◌||◌, eqb, List, [], ◌∷◌, ◌++◌, length, take, drop, get_or, refl, sym, ap, ◌∙◌, add-one, drop-cons}
use Rattle.std.proofs.Math.Bool.{or_assoc}
use Rattle.std.proofs.lemmas.List.{take_more}
use Rattle.tpl_ast.specs.declared.template.Region.{Region}
use Rattle.std.specs.Bool.{◌==◌}
use Rattle.std.specs.List.{list_any}
use Rattle.tpl_lang.specs.declared.phrase.Numeral.{Numeral}
use Rattle.tpl_lang.specs.Sets.{number}
use Rattle.tpl_lang.specs.Faults.{are_bad_frames, is_bad_frame}
use Rattle.tpl_ast.specs.Templates.{is_number_among}
use Rattle.tpl_fault.specs.Internal.Frames.{others_after}

pub after_push : (fs : List Numeral) (f : Numeral) (others : List ℕ) → others_after (fs ++ f ∷ []) others ≡ number f ∷ others_after fs others
after_push [] f others = refl
after_push (g ∷ fs) f others = after_push fs f (number g ∷ others)

or_swap : (a b c : Bool) → (a || (b || c)) ≡ (b || (a || c))
or_swap true true c = refl
or_swap true false c = refl
or_swap false b c = refl

among_append : (ns ms : List ℕ) (n : ℕ) → is_number_among (ns ++ ms) n ≡ (is_number_among ns n || is_number_among ms n)
among_append [] ms n = refl
among_append (m ∷ ns) ms n = ap (λ b. eqb m n || b) (among_append ns ms n) ∙ sym (or_assoc (eqb m n) (is_number_among ns n) (is_number_among ms n))

among_after : (fs : List Numeral) (others : List ℕ) (n : ℕ) → is_number_among (others_after fs others) n ≡ (list_any (λ m. number m == n) fs || is_number_among others n)
among_after [] others n = refl
among_after (f ∷ fs) others n =
    let here = eqb (number f) n in
    let among = list_any (λ m. number m == n) fs in
    among_after fs (number f ∷ others) n ∙ or_swap among here (is_number_among others n) ∙ sym (or_assoc here among (is_number_among others n))

-- a number is among the frames that are given where it is one of the statement's, the pool's or the tables'
pub is_among_others : (fs : List Numeral) (pool tables : List ℕ) (n : ℕ) → is_number_among (others_after fs (pool ++ tables)) n ≡ (list_any (λ m. number m == n) fs || (is_number_among pool n || is_number_among tables n))
is_among_others fs pool tables n = among_after fs (pool ++ tables) n ∙ ap (λ b. list_any (λ m. number m == n) fs || b) (among_append pool tables n)

bad_cases : (ram : List Region) (others : List ℕ) (f : Numeral) (fs : List Numeral) → is_bad_frame ram others (number f) ≡ false → are_bad_frames ram others (f ∷ fs) ≡ are_bad_frames ram (number f ∷ others) fs
bad_cases ram others f fs good = rw good refl

-- past a frame that is not bad
pub next_frame : (ram : List Region) (others : List ℕ) (fs : List Numeral) (i : ℕ) (f : Numeral) (n : ℕ) → i < length fs → n ≡ number (get_or fs i f) → false ≡ is_bad_frame ram (others_after (take i fs) others) n → are_bad_frames ram (others_after (take (i + 1) fs) others) (drop (i + 1) fs) ≡ are_bad_frames ram (others_after (take i fs) others) (drop i fs)
next_frame ram others fs i f n lt is good =
    let here : drop i fs ≡ get_or fs i f ∷ drop (i + 1) fs = rw add-one (drop-cons fs i f lt) in
    let good : is_bad_frame ram (others_after (take i fs) others) (number (get_or fs i f)) ≡ false = sym (good ∙ ap (λ (m : ℕ). is_bad_frame ram (others_after (take i fs) others) m) is) in
    ap (λ (gs : List Numeral). are_bad_frames ram (others_after gs others) (drop (i + 1) fs)) (take_more fs i f lt)
    ∙ ap (λ (os : List ℕ). are_bad_frames ram os (drop (i + 1) fs)) (after_push (take i fs) (get_or fs i f) others)
    ∙ sym (bad_cases ram (others_after (take i fs) others) (get_or fs i f) (drop (i + 1) fs) good)
    ∙ sym (ap (λ (gs : List Numeral). are_bad_frames ram (others_after (take i fs) others) gs) here)
