-- Lists of parts that are read one after another.
use Rattle.std.proofs.Common.{◌≡◌, ℕ, suc, ◌-◌, ◌+◌, ◌<◌, List, [], ◌∷◌, ◌++◌, length, Option, Some, None, option_map, refl, sym, ap, ◌∙◌, append_assoc, arith}
use Rattle.tpl_lang.specs.declared.mark.Mark.{Mark}
use Rattle.tpl_lang.specs.declared.mark.Mark.TheVariants as marks
use Rattle.tpl_lang.specs.Tokens.{Token, Word, Number, Sign}
use Rattle.tpl_lang.specs.declared.phrase.Numeral.{Numeral}
use Rattle.tpl_lang.specs.Reading.{more_numbers}
use Rattle.tpl_lang.specs.PartReading.{Read, ◌>>=◌, list_of, number_at, semicolon_at, some_wishes, wish_at}
use Rattle.tpl_lang.specs.Phrases.{WishPhrase}
use Rattle.tpl_cursor.specs.declared.stop.Stop.{Stop}
use Rattle.tpl_cursor.specs.declared.stop.Stop.TheVariants.{Memory, Unexpected}
use Rattle.tpl_cursor.specs.Internal.Reading.{Fails}

-- what was read before, and what is still read
abbrev pub with_front : {A : Type 0} → List A → Read (List A) → Read (List A)
with_front front read = read >>= λ x. Some (front ++ x.0, x.1)

regroup : {A : Type 0} (front : List A) (e : A) (read : Read (List A)) → with_front front (read >>= λ x. Some (e ∷ x.0, x.1)) ≡ with_front (front ++ e ∷ []) read
regroup {A} front e (Some x) = ap (λ (es : List A). Some (es, x.1)) (simp append_assoc)
regroup front e None = refl

module _ {A : Type 0} (item : List Token → Read (A × Mark)) (front : List A) (count i : ℕ) (ts : List Token) (total : Read (List A)) (lt : i < count) (so_far : with_front front (list_of item (count - i) ts) ≡ total) where
  one_more : count - i ≡ suc (count - (i + 1))
  one_more = omega arith

  pub goes_on : (e : A) (after : List Token) → item ts ≡ Some ((e, marks.Comma), after) → with_front (front ++ e ∷ []) (list_of item (count - (i + 1)) after) ≡ total
  goes_on e after h = let one : with_front front (list_of item (count - i) ts) ≡ with_front (front ++ e ∷ []) (list_of item (count - (i + 1)) after) = rw (one_more, h) (regroup front e (list_of item (count - (i + 1)) after)) in sym one ∙ so_far

  pub closes : (e : A) (after : List Token) → item ts ≡ Some ((e, marks.Close), after) → total ≡ Some (front ++ e ∷ [], after)
  closes e after h = let one : with_front front (list_of item (count - i) ts) ≡ Some (front ++ e ∷ [], after) = rw (one_more, h) refl in sym so_far ∙ one

  pub other : (e : A) (m : Mark) (after : List Token) → (m ≡ marks.Close → ⊥) → (m ≡ marks.Comma → ⊥) → item ts ≡ Some ((e, m), after) → total ≡ None
  other e m after not_close not_comma h =
      let at : (n : Mark) → m ≡ n → with_front front (list_of item (count - i) ts) ≡ with_front front (elim n [ marks.Close ↦ Some (e ∷ [], after) | marks.Comma ↦ list_of item (count - (i + 1)) after >>= λ es. Some (e ∷ es.0, es.1) | _ ↦ None ]) = λ n is. rw (one_more, h, is) refl in
      sym so_far ∙ pick m refl at
    where
      pick : (n : Mark) → m ≡ n → ((n : Mark) → m ≡ n → with_front front (list_of item (count - i) ts) ≡ with_front front (elim n [ marks.Close ↦ Some (e ∷ [], after) | marks.Comma ↦ list_of item (count - (i + 1)) after >>= λ es. Some (e ∷ es.0, es.1) | _ ↦ None ])) → with_front front (list_of item (count - i) ts) ≡ None
      pick marks.Close is at = absurd (not_close is)
      pick marks.Comma is at = absurd (not_comma is)
      pick marks.Open is at = at marks.Open is
      pick marks.Semicolon is at = at marks.Semicolon is
      pick marks.Colon is at = at marks.Colon is
      pick marks.Range is at = at marks.Range is
      pick marks.Is is at = at marks.Is is
      pick marks.Equal is at = at marks.Equal is
      pick marks.Unequal is at = at marks.Unequal is

  pub stops_at : (s : Stop) → Fails s (item ts) → Fails s total
  stops_at Memory h = tt
  stops_at Unexpected h = let one : with_front front (list_of item (count - i) ts) ≡ None = rw (one_more, h) refl in sym so_far ∙ one

-- ---- lists up to the end of the line

-- what was read before, and what is still read
abbrev pub behind : {A : Type 0} → List A → Option (List A) → Option (List A)
behind front read = read >>= λ xs. Some (front ++ xs)

behind_one : {A : Type 0} (front : List A) (e : A) (read : Option (List A)) → behind front (read >>= λ xs. Some (e ∷ xs)) ≡ behind (front ++ e ∷ []) read
behind_one {A} front e (Some xs) = ap (λ (es : List A). Some es) (simp append_assoc)
behind_one front e None = refl

module _ (front : List WishPhrase) (count i : ℕ) (ts : List Token) (total : Option (List WishPhrase)) (lt : i < count) (so_far : behind front (some_wishes (count - i) ts) ≡ total) where
  wish_more : count - i ≡ suc (count - (i + 1))
  wish_more = omega arith

  pub wish_stops : (s : Stop) → Fails s (wish_at ts) → Fails s total
  wish_stops Memory h = tt
  wish_stops Unexpected h = let one : behind front (some_wishes (count - i) ts) ≡ None = rw (wish_more, h) refl in sym so_far ∙ one

  pub wishes_end : (w : WishPhrase) (after : List Token) → wish_at ts ≡ Some (w, after) → after ≡ [] → total ≡ Some (front ++ w ∷ [])
  wishes_end w after h none = let one : behind front (some_wishes (count - i) ts) ≡ Some (front ++ w ∷ []) = rw (wish_more, h, none) refl in sym so_far ∙ one

  pub semicolon_stops : (w : WishPhrase) (after : List Token) → wish_at ts ≡ Some (w, after) → (after ≡ [] → ⊥) → (s : Stop) → Fails s (semicolon_at after) → Fails s total
  semicolon_stops w [] h some s fails = absurd (some refl)
  semicolon_stops w (t ∷ after) h some Memory fails = tt
  semicolon_stops w (t ∷ after) h some Unexpected fails = let one : behind front (some_wishes (count - i) ts) ≡ None = rw (wish_more, h, fails) refl in sym so_far ∙ one

  pub wishes_go_on : (w : WishPhrase) (after rest : List Token) → wish_at ts ≡ Some (w, after) → (after ≡ [] → ⊥) → semicolon_at after ≡ Some rest → behind (front ++ w ∷ []) (some_wishes (count - (i + 1)) rest) ≡ total
  wishes_go_on w [] rest h some passed = absurd (some refl)
  wishes_go_on w (t ∷ after) rest h some passed = let one : behind front (some_wishes (count - i) ts) ≡ behind (front ++ w ∷ []) (some_wishes (count - (i + 1)) rest) = rw (wish_more, h, passed) (behind_one front w (some_wishes (count - (i + 1)) rest)) in sym one ∙ so_far

numbers_regroup : (front : List Numeral) (n : Numeral) (read : Option (List Numeral)) → behind front (option_map (λ (ns : List Numeral). n ∷ ns) read) ≡ behind (front ++ n ∷ []) read
numbers_regroup front n (Some xs) = ap (λ (es : List Numeral). Some es) (simp append_assoc)
numbers_regroup front n None = refl

pub number_stops : (front : List Numeral) (ts : List Token) (total : Option (List Numeral)) → behind front (more_numbers ts) ≡ total → 0 < length ts → (s : Stop) → Fails s (number_at ts) → Fails s total
unfolding number_at
number_stops front ts total so_far some Memory fails = tt
number_stops front [] total so_far some Unexpected fails = absurd (omega arith)
number_stops front (Number n ∷ ts) total so_far some Unexpected fails = absurd cc
number_stops front (Word w ∷ ts) total so_far some Unexpected fails = sym so_far
number_stops front (Sign m ∷ ts) total so_far some Unexpected fails = sym so_far

pub number_goes_on : (front : List Numeral) (ts : List Token) (total : Option (List Numeral)) → behind front (more_numbers ts) ≡ total → (n : Numeral) (rest : List Token) → number_at ts ≡ Some (n, rest) → (length ts ≡ suc (length rest)) × (behind (front ++ n ∷ []) (more_numbers rest) ≡ total)
unfolding number_at
number_goes_on front [] total so_far n rest read = absurd cc
number_goes_on front (Word w ∷ ts) total so_far n rest read = absurd cc
number_goes_on front (Sign m ∷ ts) total so_far n rest read = absurd cc
number_goes_on front (Number k ∷ ts) total so_far n rest read =
    let first : k ≡ n = ap (λ (r : Option (Numeral × List Token)). elim r [ Some p ↦ p.0 | None ↦ n ]) read in
    let others : ts ≡ rest = ap (λ (r : Option (Numeral × List Token)). elim r [ Some p ↦ p.1 | None ↦ rest ]) read in
    rw (sym first, sym others) (refl, sym (numbers_regroup front k (more_numbers ts)) ∙ so_far)
