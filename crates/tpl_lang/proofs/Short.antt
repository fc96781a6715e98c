-- What the spelling of a statement says of its parts: names that it declares have at most 32 bytes, values are words, and its atoms compare what can be compared.
use Rattle.std.proofs.Common.{◌≡◌, ℕ, ◌-◌, ◌%◌, ◌^◌, ◌≤◌, ◌&&◌, Bool, true, false, not, cond, eqb, leb, ltb, List, [], ◌∷◌, length, drop, Option, Some, None, option_map, refl, subst, arith}
use Rattle.std.specs.Char.{is_ascii_uppercase}
use Rattle.std.specs.List.{AllByRecursion, list_all}
use Rattle.std.specs.Option.{unwrap_or}
use Rattle.std.proofs.lemmas.Bool.{leb-true, ltb-true}
use Rattle.tpl_lang.specs.declared.mark.Mark.{Mark}
use Rattle.tpl_lang.specs.declared.phrase.Numeral.{Numeral}
use Rattle.tpl_lang.specs.Numbers.{are_digits, fitting, negated_of, value_of}
use Rattle.tpl_lang.specs.Phrases.{Phrase, Name, Data, Start, Csr, Reg, Do, Label}
use Rattle.tpl_lang.specs.Sets.{number}
use Rattle.tpl_lang.specs.Grammar.{IsAtom, Spells}
use Rattle.tpl_ast.specs.States.{IsWord}
use Rattle.tpl_lang.specs.Tokens.{Token, Word, Number, Sign, is_blank, is_word, is_word_byte, mark_of, number_of, numeral, pieces, token_of, tokens_among, tokens_of}
use Rattle.std.specs.Prelude.{slice_index}

abbrev pub OnSome : {A : Type 0} → (A → Type 0) → Option A → Type 0
OnSome P None = Unit {0}
OnSome P (Some x) = P x

abbrev pub IsShortToken : Token → Type 0
IsShortToken (Word w) = length w ≤ 32
IsShortToken (Number n) = IsWord (number n)
IsShortToken (Sign m) = Unit {0}

abbrev pub AreShort : List Token → Type 0
AreShort ts = AllByRecursion IsShortToken ts

-- a name that is declared is short, a value is a word, and atoms are atoms
abbrev pub IsShort : Phrase → Type 0
IsShort (Name name s) = length name ≤ 32
IsShort (Label name) = length name ≤ 32
IsShort (Data address word) = IsWord (number word)
IsShort (Start pc p) = IsWord (number pc)
IsShort (Csr name value) = IsWord (number value)
IsShort (Reg n value) = IsWord (number value)
IsShort (Do ws) = AllByRecursion (λ w. IsAtom w.atom) ws
IsShort _ = Unit {0}

-- ---- tokens

pub both_true : (a b : Bool) → a && b ≡ true → (a ≡ true) × (b ≡ true)
both_true true b h = (refl, h)
both_true false b h = absurd (cc h)

word_is_short : (p : List ℕ) → is_word p ≡ true → length p ≤ 32
unfolding is_word
word_is_short p is = leb-true (length p) 32 ((both_true _ _ (both_true _ (list_all (λ b. is_word_byte b && not (is_ascii_uppercase b)) p) is).0).0)

small : (n : ℕ) (minus : Bool) → IsWord (number (numeral minus (fitting n)))
small n minus = go (ltb n (2 ^ 32)) refl where
  go : (c : Bool) → ltb n (2 ^ 32) ≡ c → IsWord (unwrap_or (cond c (Some n) None) 0)
  go true is = ltb-true n (2 ^ 32) is
  go false is = omega arith

negated_small : (n : ℕ) (minus : Bool) → IsWord (number (numeral minus (negated_of n)))
negated_small n minus = go (leb n (2 ^ 31)) where
  go : (c : Bool) → IsWord (unwrap_or (cond c (Some ((2 ^ 32 - n) % 2 ^ 32)) None) 0)
  go true = omega arith
  go false = omega arith

number_small : (p : List ℕ) → OnSome (λ n. IsWord (number n)) (number_of p)
unfolding number_of
number_small p = sign (eqb (slice_index p 0) 45) where
  digits : (c : Bool) (n : Numeral) → IsWord (number n) → OnSome (λ n. IsWord (number n)) (cond c (Some n) None)
  digits true n h = h
  digits false n h = tt

  base : (c : Bool) → OnSome (λ n. IsWord (number n)) (cond c (cond (are_digits 16 (drop 2 p)) (Some (numeral false (fitting (value_of 16 0 (drop 2 p))))) None) (cond (are_digits 10 p) (Some (numeral false (fitting (value_of 10 0 p)))) None))
  base true = digits (are_digits 16 (drop 2 p)) _ (small (value_of 16 0 (drop 2 p)) false)
  base false = digits (are_digits 10 p) _ (small (value_of 10 0 p) false)

  sign : (c : Bool) → OnSome (λ n. IsWord (number n)) (cond c (cond (are_digits 10 (drop 1 p)) (Some (numeral true (negated_of (value_of 10 0 (drop 1 p))))) None) (cond (ltb 1 (length p) && (eqb (slice_index p 0) 48 && eqb (slice_index p 1) 120)) (cond (are_digits 16 (drop 2 p)) (Some (numeral false (fitting (value_of 16 0 (drop 2 p))))) None) (cond (are_digits 10 p) (Some (numeral false (fitting (value_of 10 0 p)))) None)))
  sign true = digits (are_digits 10 (drop 1 p)) _ (negated_small (value_of 10 0 (drop 1 p)) true)
  sign false = base (ltb 1 (length p) && (eqb (slice_index p 0) 48 && eqb (slice_index p 1) 120))

token_short : (p : List ℕ) → OnSome IsShortToken (token_of p)
unfolding token_of
token_short p = word _ refl (mark_of p) (number_of p) (number_small p) where
  value : (n : Option Numeral) → OnSome (λ n. IsWord (number n)) n → OnSome IsShortToken (option_map Number n)
  value None h = tt
  value (Some n) h = h

  mark : (m : Option Mark) (n : Option Numeral) → OnSome (λ n. IsWord (number n)) n → OnSome IsShortToken (elim m [ Some s ↦ Some (Sign s) | None ↦ option_map Number n ])
  mark (Some m) n h = tt
  mark None n h = value n h

  word : (c : Bool) → is_word p ≡ c → (m : Option Mark) (n : Option Numeral) → OnSome (λ n. IsWord (number n)) n → OnSome IsShortToken (cond c (Some (Word p)) (elim m [ Some s ↦ Some (Sign s) | None ↦ option_map Number n ]))
  word true is m n h = word_is_short p is
  word false is m n h = mark m n h

tokens_short : (ps : List (List ℕ)) → OnSome AreShort (tokens_among ps)
tokens_short [] = tt
tokens_short (p ∷ ps) = blank (is_blank (slice_index p 0)) (token_of p) (tokens_among ps) (token_short p) (tokens_short ps) where
  more : (t : Token) (rest : Option (List Token)) → IsShortToken t → OnSome AreShort rest → OnSome AreShort (option_map (λ (ts : List Token). t ∷ ts) rest)
  more t None h k = tt
  more t (Some ts) h k = (h, k)

  token : (o : Option Token) (rest : Option (List Token)) → OnSome IsShortToken o → OnSome AreShort rest → OnSome AreShort (elim o [ None ↦ None | Some t ↦ option_map (λ (ts : List Token). t ∷ ts) rest ])
  token None rest h k = tt
  token (Some t) rest h k = more t rest h k

  blank : (c : Bool) (o : Option Token) (rest : Option (List Token)) → OnSome IsShortToken o → OnSome AreShort rest → OnSome AreShort (cond c rest (elim o [ None ↦ None | Some t ↦ option_map (λ (ts : List Token). t ∷ ts) rest ]))
  blank true o rest h k = k
  blank false o rest h k = token o rest h k

pub line_short : (l : List ℕ) → OnSome AreShort (tokens_of l)
unfolding tokens_of
line_short l = tokens_short (pieces l)

-- ---- statements

second : (t u : Token) (ts us : List Token) → ts ≡ t ∷ u ∷ us → AreShort ts → IsShortToken u
second t u ts us is h = (subst AreShort is h).1.0

fourth : (t u v w : Token) (ts us : List Token) → ts ≡ t ∷ u ∷ v ∷ w ∷ us → AreShort ts → IsShortToken w
fourth t u v w ts us is h = (subst AreShort is h).1.1.1.0

third : (t u v : Token) (ts us : List Token) → ts ≡ t ∷ u ∷ v ∷ us → AreShort ts → IsShortToken v
third t u v ts us is h = (subst AreShort is h).1.1.0

-- a statement that is spelled with such tokens
pub spelled_short : (p : Phrase) (ts : List Token) → AreShort ts → Spells p ts → IsShort p
spelled_short (Name name s) ts h (free, fits, is) = second _ _ ts _ is h
spelled_short (Label name) ts h (free, is) = second _ _ ts _ is h
spelled_short (Data address word) ts h is = fourth _ _ _ _ ts _ is h
spelled_short (Start pc p) ts h is = third _ _ _ ts _ is h
spelled_short (Csr name value) ts h is = fourth _ _ _ _ ts _ is h
spelled_short (Reg n value) ts h (word, named, is) = fourth _ _ _ _ ts _ is h
spelled_short (Do ws) ts h (atoms, is) = atoms
spelled_short _ ts h s = tt
