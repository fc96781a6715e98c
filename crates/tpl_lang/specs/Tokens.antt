-- The tokens of a line.
use Rattle.std.specs.Prelude.{ℕ, Bool, true, false, not, ◌&&◌, ◌||◌, ◌==◌, List, [], ◌∷◌, length, drop, slice_index, Option, Some, None, option_map, nat_lt, nat_le, if◌then◌else◌, codes}
use Rattle.std.specs.Str.{bytes_eq}
use Rattle.std.specs.List.{list_all}
use Rattle.std.specs.Char.{is_ascii_digit, is_ascii_lowercase, is_ascii_uppercase}
use Rattle.tpl_lang.specs.declared.mark.Mark.{Mark}
use Rattle.tpl_lang.specs.declared.mark.Mark.TheVariants as marks
use Rattle.tpl_lang.specs.declared.phrase.Numeral.{Numeral}
use Rattle.tpl_lang.specs.Numbers.{are_digits, fitting, negated_of, value_of}
use Rattle.tpl_ast.specs.Limits.{longest_name}

pub data Token : Type 0 where
  Word : List ℕ → Token
  Number : Numeral → Token
  Sign : Mark → Token

abbrev pub is_blank : ℕ → Bool
is_blank b = b == 32 || b == 9

-- a byte of a word or of a number
abbrev pub is_word_byte : ℕ → Bool
is_word_byte b = is_ascii_digit b || is_ascii_lowercase b || is_ascii_uppercase b || b == 95

-- two neighbours belong to one piece: of a word or number, of blanks, of the symbols of two bytes, and a minus before a digit
abbrev pub joins : ℕ → ℕ → Bool
joins b c =
    (is_word_byte b && is_word_byte c)
    || ((is_blank b && is_blank c)
    || ((b == 46 && c == 46)
    || (((b == 61 || b == 33) && c == 61)
    || (b == 45 && is_word_byte c))))

-- a byte before the pieces that follow it
abbrev pub with_byte : ℕ → List (List ℕ) → List (List ℕ)
with_byte b [] = (b ∷ []) ∷ []
with_byte b ([] ∷ ps) = (b ∷ []) ∷ ps
with_byte b ((c ∷ cs) ∷ ps) = if joins b c then (b ∷ c ∷ cs) ∷ ps else (b ∷ []) ∷ (c ∷ cs) ∷ ps

-- a line cut between all neighbours that don't belong to one piece
abbrev pub pieces : List ℕ → List (List ℕ)
pieces [] = []
pieces (b ∷ bs) = with_byte b (pieces bs)

-- a lower-case letter, then lower-case letters, digits and underscores, no longer than a name
unfoldable pub is_word : List ℕ → Bool
is_word p = nat_le (length p) longest_name && is_ascii_lowercase (slice_index p 0) && list_all (λ b. is_word_byte b && not (is_ascii_uppercase b)) p

abbrev pub numeral : Bool → Option ℕ → Numeral
numeral minus value = record { minus = minus; value = value }

-- decimal digits, with a minus before them, or 0x and hexadecimal digits
unfoldable pub number_of : List ℕ → Option Numeral
number_of p =
    if slice_index p 0 == 45 then (if are_digits 10 (drop 1 p) then Some (numeral true (negated_of (value_of 10 0 (drop 1 p)))) else None)
    else (if nat_lt 1 (length p) && (slice_index p 0 == 48 && slice_index p 1 == 120) then (if are_digits 16 (drop 2 p) then Some (numeral false (fitting (value_of 16 0 (drop 2 p)))) else None)
    else (if are_digits 10 p then Some (numeral false (fitting (value_of 10 0 p))) else None))

unfoldable pub mark_of : List ℕ → Option Mark
mark_of p =
    if bytes_eq p (codes "{") then Some marks.Open
    else (if bytes_eq p (codes "}") then Some marks.Close
    else (if bytes_eq p (codes ";") then Some marks.Semicolon
    else (if bytes_eq p (codes ",") then Some marks.Comma
    else (if bytes_eq p (codes ":") then Some marks.Colon
    else (if bytes_eq p (codes "..") then Some marks.Range
    else (if bytes_eq p (codes "=") then Some marks.Is
    else (if bytes_eq p (codes "==") then Some marks.Equal
    else (if bytes_eq p (codes "!=") then Some marks.Unequal else None))))))))

-- the token that a piece is
unfoldable pub token_of : List ℕ → Option Token
token_of p = if is_word p then Some (Word p) else elim (mark_of p) [
  | Some m ↦ Some (Sign m)
  | None ↦ option_map Number (number_of p)
]

-- the tokens of pieces, if each is blank or a token
abbrev pub tokens_among : List (List ℕ) → Option (List Token)
tokens_among [] = Some []
tokens_among (p ∷ ps) = if is_blank (slice_index p 0) then tokens_among ps else elim (token_of p) [
  | None ↦ None
  | Some t ↦ option_map (λ (ts : List Token). t ∷ ts) (tokens_among ps)
]

unfoldable pub tokens_of : List ℕ → Option (List Token)
tokens_of line = tokens_among (pieces line)
