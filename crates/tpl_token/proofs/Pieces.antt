-- The first piece of a line, and those behind it.
use Rattle.std.proofs.Common.{◌≡◌, ℕ, suc, ◌<◌, Bool, true, false, cond, List, [], ◌∷◌, ◌++◌, Option, Some, None, length, take, drop, get_or, refl, sym, ap, ◌∙◌, arith, add-one, append_assoc}
use Rattle.std.specs.Prelude.{option_map}
use Rattle.tpl_lang.specs.Tokens.{joins, with_byte, pieces, Token, is_blank, token_of, tokens_among}
use Rattle.tpl_token.specs.Internal.Pieces.{joined, piece_len}

-- what a byte does before pieces of which the first begins with c
with_byte_cases : (b c : ℕ) (cs : List ℕ) (ps : List (List ℕ)) (j : Bool) → joins b c ≡ j → with_byte b ((c ∷ cs) ∷ ps) ≡ cond j ((b ∷ c ∷ cs) ∷ ps) ((b ∷ []) ∷ (c ∷ cs) ∷ ps)
with_byte_cases b c cs ps j is = rw is refl

joined_cases : (b c : ℕ) (cs : List ℕ) (j : Bool) → joins b c ≡ j → joined b (c ∷ cs) ≡ cond j (suc (joined c cs)) 0
joined_cases b c cs true is = rw (is, add-one) refl
joined_cases b c cs false is = rw is refl

pub first_piece : (b : ℕ) (bs : List ℕ) → pieces (b ∷ bs) ≡ (b ∷ take (joined b bs) bs) ∷ pieces (drop (joined b bs) bs)
first_piece b [] = refl
first_piece b (c ∷ cs) =
    let behind = first_piece c cs in
    let here : (j : Bool) → joins b c ≡ j → pieces (b ∷ c ∷ cs) ≡ (b ∷ take (joined b (c ∷ cs)) (c ∷ cs)) ∷ pieces (drop (joined b (c ∷ cs)) (c ∷ cs)) = λ j. elim j as (λ j. joins b c ≡ j → pieces (b ∷ c ∷ cs) ≡ (b ∷ take (joined b (c ∷ cs)) (c ∷ cs)) ∷ pieces (drop (joined b (c ∷ cs)) (c ∷ cs))) [
      | true ↦ λ is. ap (with_byte b) behind ∙ with_byte_cases b c _ _ true is ∙ sym (ap (λ (n : ℕ). (b ∷ take n (c ∷ cs)) ∷ pieces (drop n (c ∷ cs))) (joined_cases b c cs true is))
      | false ↦ λ is. ap (with_byte b) behind ∙ with_byte_cases b c _ _ false is ∙ ap (λ (ps : List (List ℕ)). (b ∷ []) ∷ ps) (sym behind) ∙ sym (ap (λ (n : ℕ). (b ∷ take n (c ∷ cs)) ∷ pieces (drop n (c ∷ cs))) (joined_cases b c cs false is))
    ] in here (joins b c) refl

pub pieces_split : (bs : List ℕ) (n : ℕ) → 0 < length bs → n ≡ piece_len bs → pieces bs ≡ take n bs ∷ pieces (drop n bs)
pieces_split [] n some is = absurd (omega (arith, some))
pieces_split (b ∷ bs) n some is = let e : n ≡ suc (joined b bs) = omega (arith, is) in first_piece b bs ∙ sym (ap (λ (k : ℕ). take k (b ∷ bs) ∷ pieces (drop k (b ∷ bs))) e)

pub among_split : (bs piece after : List ℕ) (n : ℕ) → 0 < length bs → n ≡ piece_len bs → piece ≡ take n bs → after ≡ drop n bs → tokens_among (pieces bs) ≡ tokens_among (piece ∷ pieces after)
among_split bs piece after n some is front back = ap tokens_among (pieces_split bs n some is) ∙ sym (ap (λ (p : List ℕ). tokens_among (p ∷ pieces after)) front ∙ ap (λ (l : List ℕ). tokens_among (take n bs ∷ pieces l)) back)

-- the tokens before, and those of the pieces that are left
abbrev pub behind : List Token → List (List ℕ) → Option (List Token)
behind front ps = option_map (λ (ts : List Token). front ++ ts) (tokens_among ps)

pub past_blank : (front : List Token) (piece : List ℕ) (ps : List (List ℕ)) → is_blank (get_or piece 0 0) ≡ true → behind front (piece ∷ ps) ≡ behind front ps
past_blank front piece ps blank = rw blank refl

regroup : (front : List Token) (t : Token) (read : Option (List Token)) → option_map (λ (ts : List Token). front ++ ts) (option_map (λ (ts : List Token). t ∷ ts) read) ≡ option_map (λ (ts : List Token). (front ++ t ∷ []) ++ ts) read
regroup front t None = refl
regroup front t (Some ts) = ap Some (simp append_assoc)

pub past_token : (front : List Token) (piece : List ℕ) (ps : List (List ℕ)) (t : Token) → is_blank (get_or piece 0 0) ≡ false → token_of piece ≡ Some t → behind front (piece ∷ ps) ≡ behind (front ++ t ∷ []) ps
past_token front piece ps t solid is = rw (solid, is) (regroup front t (tokens_among ps))

pub at_no_token : (front : List Token) (piece : List ℕ) (ps : List (List ℕ)) → is_blank (get_or piece 0 0) ≡ false → token_of piece ≡ None → behind front (piece ∷ ps) ≡ None
at_no_token front piece ps solid is = rw (solid, is) refl
