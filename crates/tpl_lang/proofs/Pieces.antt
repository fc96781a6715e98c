-- How long a line is that starts a word of memory.
use Rattle.std.proofs.Common.{◌≡◌, ℕ, ◌+◌, ◌-◌, ◌≤◌, ◌&&◌, Bool, true, false, cond, eqb, ltb, List, [], ◌∷◌, length, drop, slice_index, Option, Some, None, option_map, refl, ap, ◌∙◌, subst, inl, inr, ◌⊎◌, codes, arith}
use Rattle.std.specs.Char.{is_ascii_digit}
use Rattle.std.proofs.lemmas.Bool.{ltb-false, ltb-true}
use Rattle.std.proofs.lemmas.Bool.Decides.{nat_tests}
use Rattle.std.proofs.lemmas.List.{length-drop}
use Rattle.std.proofs.lemmas.Option.{same_Some}
use Rattle.tpl_lang.specs.declared.mark.Mark.{Mark}
use Rattle.tpl_lang.specs.declared.mark.Mark.TheVariants as marks
use Rattle.tpl_lang.specs.declared.phrase.Numeral.{Numeral}
use Rattle.tpl_lang.specs.declared.words.Key.TheVariants as keys
use Rattle.tpl_lang.specs.Numbers.{are_digits, digit_of, fitting, negated_of, value_of}
use Rattle.tpl_lang.specs.Grammar.{IsSome, key}
use Rattle.tpl_lang.specs.Tokens.{Token, Word, Number, Sign, is_blank, is_word, is_word_byte, joins, mark_of, number_of, numeral, pieces, token_of, tokens_among, tokens_of, with_byte}
use Rattle.tpl_lang.proofs.Short.{both_true}
use Rattle.tpl_lang.proofs.Steps.{either_false}

-- ---- pieces

abbrev last : List ℕ → ℕ
last [] = 0
last (b ∷ []) = b
last (b ∷ c ∷ cs) = last (c ∷ cs)

-- each piece has a byte, and no two neighbours belong to one
abbrev AreCut : List (List ℕ) → Type 0
AreCut [] = Unit {0}
AreCut (p ∷ []) = IsSome p
AreCut (p ∷ q ∷ ps) = IsSome p × (joins (last p) (slice_index q 0) ≡ false) × AreCut (q ∷ ps)

-- how many bytes they have together
abbrev total : List (List ℕ) → ℕ
total [] = 0
total (p ∷ ps) = length p + total ps

joined : (b c : ℕ) (cs : List ℕ) (ps : List (List ℕ)) → AreCut ((c ∷ cs) ∷ ps) → AreCut ((b ∷ c ∷ cs) ∷ ps)
joined b c cs [] h = tt
joined b c cs (q ∷ ps) h = (tt, h.1, h.2)

byte_cut : (b : ℕ) (ps : List (List ℕ)) → AreCut ps → AreCut (with_byte b ps) × (total (with_byte b ps) ≡ total ps + 1)
byte_cut b [] h = (tt, omega arith)
byte_cut b ([] ∷ []) h = absurd h
byte_cut b ([] ∷ q ∷ ps) h = absurd h.0
byte_cut b ((c ∷ cs) ∷ ps) h = go (joins b c) refl where
  go : (t : Bool) → joins b c ≡ t → AreCut (cond t ((b ∷ c ∷ cs) ∷ ps) ((b ∷ []) ∷ (c ∷ cs) ∷ ps)) × (total (cond t ((b ∷ c ∷ cs) ∷ ps) ((b ∷ []) ∷ (c ∷ cs) ∷ ps)) ≡ total ((c ∷ cs) ∷ ps) + 1)
  go true is = (joined b c cs ps h, omega arith)
  go false is = ((tt, is, h), omega arith)

pieces_cut : (l : List ℕ) → AreCut (pieces l) × (total (pieces l) ≡ length l)
pieces_cut [] = (tt, refl)
pieces_cut (b ∷ bs) =
    let rest = pieces_cut bs in
    let more = byte_cut b (pieces bs) rest.0 in
    (more.0, omega (arith, more.1, rest.1))

-- ---- one token after another

-- the piece of the first token, and what stands behind it
record Next (ps : List (List ℕ)) (t : Token) (ts : List Token) : Type 0 where
  piece : List ℕ
  rest : List (List ℕ)
  token : token_of piece ≡ Some t
  tokens : tokens_among rest ≡ Some ts
  cut : AreCut (piece ∷ rest)
  -- blanks stand before it, or it is the first
  first : (1 + length piece + total rest ≤ total ps) ⊎ (ps ≡ piece ∷ rest)

more_cut : (p : List ℕ) (ps : List (List ℕ)) → AreCut (p ∷ ps) → AreCut ps
more_cut p [] h = tt
more_cut p (q ∷ ps) h = h.2

some_byte : (p : List ℕ) (ps : List (List ℕ)) → AreCut (p ∷ ps) → 1 ≤ length p
some_byte [] [] h = absurd h
some_byte [] (q ∷ ps) h = absurd h.0
some_byte (b ∷ p) ps h = omega arith

at_most : {ps : List (List ℕ)} {t : Token} {ts : List Token} (n : Next ps t ts) → length n.piece + total n.rest ≤ total ps
at_most n = elim (n.first) [
  | inl blanks ↦ omega (arith, blanks)
  | inr is ↦ omega (arith, ap total is)
]

next_token : (ps : List (List ℕ)) (t : Token) (ts : List Token) → AreCut ps → tokens_among ps ≡ Some (t ∷ ts) → Next ps t ts
next_token [] t ts cut is = absurd (cc is)
next_token (p ∷ ps) t ts cut is = blank (is_blank (slice_index p 0)) is (next_token ps t ts (more_cut p ps cut)) where
  own : (u : Token) (us : List Token) → token_of p ≡ Some u → tokens_among ps ≡ Some us → ◌≡◌ {A = Option (List Token)} (Some (u ∷ us)) (Some (t ∷ ts)) → Next (p ∷ ps) t ts
  own u us token tokens same =
      let e : u ∷ us ≡ t ∷ ts = same_Some _ _ same in
      let head : u ≡ t = cc e in
      let tail : us ≡ ts = cc e in
      record { piece = p; rest = ps; token = token ∙ ap (λ (x : Token). Some x) head; tokens = tokens ∙ ap (λ (x : List Token). Some x) tail; cut = cut; first = inr refl }

  rest : (u : Token) → token_of p ≡ Some u → (o : Option (List Token)) → tokens_among ps ≡ o → option_map (λ (us : List Token). u ∷ us) o ≡ Some (t ∷ ts) → Next (p ∷ ps) t ts
  rest u token None tokens same = absurd (cc same)
  rest u token (Some us) tokens same = own u us token tokens same

  token : (o : Option Token) → token_of p ≡ o → ◌≡◌ {A = Option (List Token)} (elim o [ None ↦ None | Some u ↦ option_map (λ (us : List Token). u ∷ us) (tokens_among ps) ]) (Some (t ∷ ts)) → Next (p ∷ ps) t ts
  token None at same = absurd (cc same)
  token (Some u) at same = rest u at (tokens_among ps) refl same

  behind : Next ps t ts → Next (p ∷ ps) t ts
  behind n = record { piece = n.piece; rest = n.rest; token = n.token; tokens = n.tokens; cut = n.cut; first = inl (omega (arith, at_most n, some_byte p ps cut)) }

  blank : (c : Bool) → ◌≡◌ {A = Option (List Token)} (cond c (tokens_among ps) (elim (token_of p) [ None ↦ None | Some u ↦ option_map (λ (us : List Token). u ∷ us) (tokens_among ps) ])) (Some (t ∷ ts)) → (tokens_among ps ≡ Some (t ∷ ts) → Next ps t ts) → Next (p ∷ ps) t ts
  blank true same rest = behind (rest same)
  blank false same rest = token (token_of p) refl same

-- ---- words and numbers

word_piece : (p w : List ℕ) → token_of p ≡ Some (Word w) → p ≡ w
unfolding token_of
word_piece p w is = go (is_word p) (mark_of p) (number_of p) is where
  value : (n : Option Numeral) → option_map Number n ≡ Some (Word w) → p ≡ w
  value None e = absurd (cc e)
  value (Some n) e = absurd (cc e)

  go : (c : Bool) (m : Option Mark) (n : Option Numeral) → ◌≡◌ {A = Option Token} (cond c (Some (Word p)) (elim m [ Some s ↦ Some (Sign s) | None ↦ option_map Number n ])) (Some (Word w)) → p ≡ w
  go true m n e = cc e
  go false (Some s) n e = absurd (cc e)
  go false None n e = value n e

-- it begins with a digit, or it has two bytes
abbrev IsNumberPiece : List ℕ → Type 0
IsNumberPiece p = (is_word_byte (slice_index p 0) ≡ true) ⊎ (2 ≤ length p)

-- no digit below 10 stands behind the decimal ones
no_letter : (b : ℕ) → ltb b 58 ≡ false → (d e f g : Bool) → ltb b 65 ≡ d → ltb b 71 ≡ e → ltb b 97 ≡ f → ltb b 103 ≡ g → ltb (cond d 99 (cond e (b - 55) (cond f 99 (cond g (b - 87) 99)))) 10 ≡ true → ⊥
no_letter b above true e f g is1 is2 is3 is4 h = absurd (cc h)
no_letter b above false true f g is1 is2 is3 is4 h = absurd (omega (arith, ltb-false b 65 is1, ltb-true (b - 55) 10 h))
no_letter b above false false true g is1 is2 is3 is4 h = absurd (cc h)
no_letter b above false false false true is1 is2 is3 is4 h = absurd (omega (arith, ltb-false b 97 is3, ltb-true (b - 87) 10 h))
no_letter b above false false false false is1 is2 is3 is4 h = absurd (cc h)

digit_byte : (b : ℕ) → ltb (digit_of b) 10 ≡ true → is_word_byte b ≡ true
digit_byte b h = one (ltb b 48) refl h where
  two : (c : Bool) → ltb b 58 ≡ c → ltb b 48 ≡ false → ltb (cond c (b - 48) (cond (ltb b 65) 99 (cond (ltb b 71) (b - 55) (cond (ltb b 97) 99 (cond (ltb b 103) (b - 87) 99))))) 10 ≡ true → is_word_byte b ≡ true
  two true below above h = let a : is_ascii_digit b ≡ true = grind (arith, nat_tests, above, below) in rw a refl
  two false below above h = absurd (no_letter b below (ltb b 65) (ltb b 71) (ltb b 97) (ltb b 103) refl refl refl refl h)

  one : (c : Bool) → ltb b 48 ≡ c → ltb (cond c 99 (cond (ltb b 58) (b - 48) (cond (ltb b 65) 99 (cond (ltb b 71) (b - 55) (cond (ltb b 97) 99 (cond (ltb b 103) (b - 87) 99)))))) 10 ≡ true → is_word_byte b ≡ true
  one true is h = absurd (cc h)
  one false is h = two (ltb b 58) refl is h

first_digit : (p : List ℕ) → are_digits 10 p ≡ true → is_word_byte (slice_index p 0) ≡ true
first_digit [] h = absurd (cc h)
first_digit (b ∷ p) h = digit_byte b (both_true (ltb (digit_of b) 10) _ (both_true (ltb 0 (length (b ∷ p))) _ h).1).0

some_digits : (n : ℕ) (p : List ℕ) → are_digits 10 (drop n p) ≡ true → n + 1 ≤ length p
some_digits n p h = omega (arith, length-drop n p, ltb-true 0 (length (drop n p)) (both_true (ltb 0 (length (drop n p))) _ h).0)

number_piece : (p : List ℕ) (n : Numeral) → number_of p ≡ Some n → IsNumberPiece p
unfolding number_of
number_piece p n is = sign (eqb (slice_index p 0) 45) is where
  minus : (c : Bool) → are_digits 10 (drop 1 p) ≡ c → (m : Numeral) → ◌≡◌ {A = Option Numeral} (cond c (Some m) None) (Some n) → IsNumberPiece p
  minus true digits m h = inr (some_digits 1 p digits)
  minus false digits m h = absurd (cc h)

  plain : (c : Bool) → are_digits 10 p ≡ c → (m : Numeral) → ◌≡◌ {A = Option Numeral} (cond c (Some m) None) (Some n) → IsNumberPiece p
  plain true digits m h = inl (first_digit p digits)
  plain false digits m h = absurd (cc h)

  base : (c : Bool) → (ltb 1 (length p) && (eqb (slice_index p 0) 48 && eqb (slice_index p 1) 120)) ≡ c
      → ◌≡◌ {A = Option Numeral} (cond c (cond (are_digits 16 (drop 2 p)) (Some (numeral false (fitting (value_of 16 0 (drop 2 p))))) None) (cond (are_digits 10 p) (Some (numeral false (fitting (value_of 10 0 p)))) None)) (Some n) → IsNumberPiece p
  base true long h = inr (omega (arith, ltb-true 1 (length p) (both_true (ltb 1 (length p)) _ long).0))
  base false long h = plain (are_digits 10 p) refl _ h

  sign : (c : Bool) → ◌≡◌ {A = Option Numeral} (cond c (cond (are_digits 10 (drop 1 p)) (Some (numeral true (negated_of (value_of 10 0 (drop 1 p))))) None) (cond (ltb 1 (length p) && (eqb (slice_index p 0) 48 && eqb (slice_index p 1) 120)) (cond (are_digits 16 (drop 2 p)) (Some (numeral false (fitting (value_of 16 0 (drop 2 p))))) None) (cond (are_digits 10 p) (Some (numeral false (fitting (value_of 10 0 p)))) None))) (Some n) → IsNumberPiece p
  sign true h = minus (are_digits 10 (drop 1 p)) refl _ h
  sign false h = base _ refl h

number_token : (p : List ℕ) (n : Numeral) → token_of p ≡ Some (Number n) → IsNumberPiece p
unfolding token_of
number_token p n is = go (is_word p) (mark_of p) (number_of p) refl is where
  value : (o : Option Numeral) → number_of p ≡ o → option_map Number o ≡ Some (Number n) → IsNumberPiece p
  value None at e = absurd (cc e)
  value (Some m) at e = number_piece p m at

  go : (c : Bool) (m : Option Mark) (o : Option Numeral) → number_of p ≡ o → ◌≡◌ {A = Option Token} (cond c (Some (Word p)) (elim m [ Some s ↦ Some (Sign s) | None ↦ option_map Number o ])) (Some (Number n)) → IsNumberPiece p
  go true m o at e = absurd (cc e)
  go false (Some s) o at e = absurd (cc e)
  go false None o at e = value o at e

-- ---- a word and a number behind it

-- the piece of a word of the language, which ends in a letter, doesn't belong together with a digit
apart_joins : (b c : ℕ) → is_word_byte b ≡ true → is_word_byte c ≡ true → joins b c ≡ false → ⊥
apart_joins b c one other h = let e = (either_false (is_word_byte b && is_word_byte c) _ h).0 in cc (e, one, other)

pub data_is_long : (l : List ℕ) (a w : Numeral) → tokens_of l ≡ Some (key keys.Data ∷ Number a ∷ Sign marks.Is ∷ Number w ∷ []) → 8 ≤ length l
unfolding tokens_of
data_is_long l a w is =
    let cut = pieces_cut l in
    let one = next_token (pieces l) (key keys.Data) (Number a ∷ Sign marks.Is ∷ Number w ∷ []) cut.0 is in
    let two = next_token one.rest (Number a) (Sign marks.Is ∷ Number w ∷ []) (more_cut one.piece one.rest one.cut) one.tokens in
    let three = next_token two.rest (Sign marks.Is) (Number w ∷ []) (more_cut two.piece two.rest two.cut) two.tokens in
    let four = next_token three.rest (Number w) [] (more_cut three.piece three.rest three.cut) three.tokens in
    let word : one.piece ≡ codes "data" = word_piece one.piece (codes "data") one.token in
    let begins : length one.piece ≡ 4 = ap length word in
    let behind : 2 ≤ total two.rest = omega (arith, at_most three, some_byte three.piece three.rest three.cut, at_most four, some_byte four.piece four.rest four.cut) in
    omega (arith, cut.1, at_most one, begins, behind, gap one.piece one.rest word one.cut two.piece two.rest two.first (some_byte two.piece two.rest two.cut) (number_token two.piece a two.token))
  where
    gap : (p : List ℕ) (ps : List (List ℕ)) → p ≡ codes "data" → AreCut (p ∷ ps) → (q : List ℕ) (qs : List (List ℕ)) → (1 + length q + total qs ≤ total ps) ⊎ (ps ≡ q ∷ qs) → 1 ≤ length q → IsNumberPiece q → 2 + total qs ≤ total ps
    gap p ps word cut q qs (inl blanks) some number = omega (arith, blanks, some)
    gap p ps word cut q qs (inr is) some (inr long) = omega (arith, ap total is, long)
    gap p ps word cut q qs (inr is) some (inl digit) = absurd (
        let own : joins (last p) (slice_index q 0) ≡ false = (subst (λ (xs : List (List ℕ)). AreCut (p ∷ xs)) is cut).1 in
        apart_joins 97 (slice_index q 0) refl digit (subst (λ (x : List ℕ). joins (last x) (slice_index q 0) ≡ false) word own))
