-- The line that says how often, as it is read.
use Rattle.std.proofs.Common.{◌≡◌, ℕ, zero, suc, ◌+◌, ◌-◌, ◌*◌, ◌/◌, ◌%◌, ◌^◌, ◌<◌, ◌≤◌, Bool, true, false, not, ◌&&◌, ◌||◌, cond, List, [], ◌∷◌, ◌++◌, length, take, Option, Some, None, append_assoc, length-append, refl, sym, ap, ◌∙◌, subst, codes, arith}
use Rattle.std.specs.Prelude.{nat_lt, nat_le, ◌==◌, slice_index}
use Rattle.std.specs.Char.{is_ascii_lowercase, is_ascii_uppercase}
use Rattle.std.specs.Fmt.{decimal}
use Rattle.std.specs.List.{list_all, list_any}
use Rattle.std.proofs.Math.Seq.{get_or-append_seam, take-length}
use Rattle.std.proofs.lemmas.Bool.{lt-ltb}
use Rattle.std.proofs.lemmas.Fmt.{decimal_by_steps}
use Rattle.tpl_lang.specs.declared.mark.Mark.TheVariants as marks
use Rattle.tpl_lang.specs.declared.phrase.Numeral.{Numeral}
use Rattle.tpl_lang.specs.declared.words.Key.TheVariants as keys
use Rattle.tpl_lang.specs.Lines.{is_bad_byte, length_until, stripped, uncommented}
use Rattle.tpl_lang.specs.Numbers.{are_digits, digit_of, fitting, value_of}
use Rattle.tpl_lang.specs.Grammar.{key}
use Rattle.tpl_lang.specs.Tokens.{Token, Number, Sign, is_blank, is_word, is_word_byte, joins, mark_of, number_of, numeral, pieces, token_of, tokens_among, tokens_of, with_byte}
use Rattle.cover_sweep.specs.Template.{repeat_line}

-- ---- digits

pub record IsDigit (d : ℕ) : Type 0 where
  pub low : 48 ≤ d
  pub high : d ≤ 57

abbrev pub AreDigits : List ℕ → Type 0
AreDigits [] = Unit {0}
AreDigits (d ∷ ds) = IsDigit d × AreDigits ds

by_place : (P : ℕ → Type 0) → P 48 → P 49 → P 50 → P 51 → P 52 → P 53 → P 54 → P 55 → P 56 → P 57 → (k : ℕ) → k ≤ 9 → P (48 + k)
by_place P a b c d e f g h i j zero l = a
by_place P a b c d e f g h i j (suc zero) l = b
by_place P a b c d e f g h i j (suc (suc zero)) l = c
by_place P a b c d e f g h i j (suc (suc (suc zero))) l = d
by_place P a b c d e f g h i j (suc (suc (suc (suc zero)))) l = e
by_place P a b c d e f g h i j (suc (suc (suc (suc (suc zero))))) l = f
by_place P a b c d e f g h i j (suc (suc (suc (suc (suc (suc zero)))))) l = g
by_place P a b c d e f g h i j (suc (suc (suc (suc (suc (suc (suc zero))))))) l = h
by_place P a b c d e f g h i j (suc (suc (suc (suc (suc (suc (suc (suc zero)))))))) l = i
by_place P a b c d e f g h i j (suc (suc (suc (suc (suc (suc (suc (suc (suc zero))))))))) l = j
by_place P a b c d e f g h i j (suc (suc (suc (suc (suc (suc (suc (suc (suc (suc k)))))))))) l = absurd (omega (arith, l))

-- what holds of each of the ten digits holds of a digit
by_digit : (P : ℕ → Type 0) → P 48 → P 49 → P 50 → P 51 → P 52 → P 53 → P 54 → P 55 → P 56 → P 57 → (x : ℕ) → IsDigit x → P x
by_digit P a b c d e f g h i j x digit =
    let back : 48 + (x - 48) ≡ x = omega (arith, digit.low) in
    let near : x - 48 ≤ 9 = omega (arith, digit.high) in
    subst P back (by_place P a b c d e f g h i j (x - 48) near)

digit_value : (x : ℕ) → IsDigit x → digit_of x ≡ x - 48
digit_value = by_digit (λ (x : ℕ). digit_of x ≡ x - 48) refl refl refl refl refl refl refl refl refl refl

is_word_digit : (x : ℕ) → IsDigit x → is_word_byte x ≡ true
is_word_digit = by_digit (λ (x : ℕ). is_word_byte x ≡ true) refl refl refl refl refl refl refl refl refl refl

is_low_digit : (x : ℕ) → IsDigit x → nat_lt (digit_of x) 10 ≡ true
is_low_digit = by_digit (λ (x : ℕ). nat_lt (digit_of x) 10 ≡ true) refl refl refl refl refl refl refl refl refl refl

is_no_letter : (x : ℕ) → IsDigit x → is_ascii_lowercase x ≡ false
is_no_letter = by_digit (λ (x : ℕ). is_ascii_lowercase x ≡ false) refl refl refl refl refl refl refl refl refl refl

-- ---- a number in decimal digits

pub record IsWritten (n : ℕ) (ds : List ℕ) : Type 0 where
  pub digits : AreDigits ds
  pub some : 0 < length ds
  pub value : value_of 10 0 ds ≡ n

value_more : (m : ℕ) (ds : List ℕ) (d : ℕ) → value_of 10 m (ds ++ d ∷ []) ≡ value_of 10 m ds * 10 + digit_of d
value_more m [] d = refl
value_more m (e ∷ ds) d = value_more (m * 10 + digit_of e) ds d

digits_more : (ds : List ℕ) (d : ℕ) → AreDigits ds → IsDigit d → AreDigits (ds ++ d ∷ [])
digits_more [] d are is = (is, tt)
digits_more (e ∷ ds) d are is = (are.0, digits_more ds d are.1 is)

one_written : (n : ℕ) → n < 10 → IsWritten n ((48 + n) ∷ [])
one_written n small =
    let is : IsDigit (48 + n) = record { low = omega arith; high = omega (arith, small) } in
    record { digits = (is, tt); some = omega arith; value = omega (arith, digit_value (48 + n) is) }

more_written : (n : ℕ) (ds : List ℕ) → 10 ≤ n → IsWritten (n / 10) ds → IsWritten n (ds ++ (48 + n % 10) ∷ [])
more_written n ds large first =
    let is : IsDigit (48 + n % 10) = record { low = omega arith; high = omega arith } in
    record {
      digits = digits_more ds (48 + n % 10) first.digits is;
      some = omega (arith, length-append ds ((48 + n % 10) ∷ []));
      value = omega (arith, value_more 0 ds (48 + n % 10), first.value, digit_value (48 + n % 10) is);
    }

pub is_written : (n : ℕ) → n ≤ 2000 → IsWritten n (decimal n)
is_written n small = decimal_by_steps IsWritten one_written more_written n (omega (arith, small))

-- ---- its token

middle_false : (a b c : Bool) → b ≡ false → (a && b && c) ≡ false
middle_false true b c none = ap (λ (x : Bool). x && c) none
middle_false false b c none = refl

last_false : (a b : Bool) → b ≡ false → (a && b) ≡ false
last_false true b none = none
last_false false b none = refl

is_no_word : (d : ℕ) (ds : List ℕ) → IsDigit d → is_word (d ∷ ds) ≡ false
unfolding is_word
is_no_word d ds is = middle_false (nat_le (length (d ∷ ds)) 32) (is_ascii_lowercase d) (list_all (λ b. is_word_byte b && not (is_ascii_uppercase b)) (d ∷ ds)) (is_no_letter d is)

is_no_mark : (ds : List ℕ) (d : ℕ) → IsDigit d → mark_of (d ∷ ds) ≡ None
unfolding mark_of
is_no_mark ds = by_digit (λ (x : ℕ). mark_of (x ∷ ds) ≡ None) refl refl refl refl refl refl refl refl refl refl

is_no_minus : (d : ℕ) → IsDigit d → (d == 45) ≡ false
is_no_minus = by_digit (λ (x : ℕ). (x == 45) ≡ false) refl refl refl refl refl refl refl refl refl refl

is_no_hex : (ds : List ℕ) → AreDigits ds → (slice_index ds 0 == 120) ≡ false
is_no_hex [] are = refl
is_no_hex (d ∷ ds) are = by_digit (λ (x : ℕ). (x == 120) ≡ false) refl refl refl refl refl refl refl refl refl refl d are.0

all_low : (ds : List ℕ) → AreDigits ds → list_all (λ d. nat_lt (digit_of d) 10) ds ≡ true
all_low [] are = refl
all_low (d ∷ ds) are = ap (λ (x : Bool). x && list_all (λ d. nat_lt (digit_of d) 10) ds) (is_low_digit d are.0) ∙ all_low ds are.1

are_all_digits : (d : ℕ) (ds : List ℕ) → AreDigits (d ∷ ds) → are_digits 10 (d ∷ ds) ≡ true
are_all_digits d ds are =
    let some : 0 < length (d ∷ ds) = omega arith in
    ap (λ (x : Bool). x && list_all (λ e. nat_lt (digit_of e) 10) (d ∷ ds)) (lt-ltb 0 (length (d ∷ ds)) some) ∙ all_low (d ∷ ds) are

third_of : {A : Type 0} (a b c : Bool) (x y z w : A) → a ≡ false → b ≡ false → c ≡ true → cond a x (cond b y (cond c z w)) ≡ z
third_of {A} a b c x y z w first second third =
    ap (λ (t : Bool). cond t x (cond b y (cond c z w))) first ∙ ap (λ (t : Bool). cond t y (cond c z w)) second ∙ ap (λ (t : Bool). cond t z w) third

abbrev pub plain : ℕ → Numeral
plain n = numeral false (Some n)

is_number : (d : ℕ) (ds : List ℕ) (n : ℕ) → AreDigits (d ∷ ds) → value_of 10 0 (d ∷ ds) ≡ n → n < 2 ^ 32 → number_of (d ∷ ds) ≡ Some (plain n)
unfolding number_of
is_number d ds n are value word =
    let p : List ℕ = d ∷ ds in
    let fits : fitting (value_of 10 0 p) ≡ Some n = ap fitting value ∙ ap (λ (t : Bool). cond t (Some n) None) (lt-ltb n (2 ^ 32) word) in
    third_of (d == 45) (nat_lt 1 (length p) && (d == 48 && slice_index ds 0 == 120)) (are_digits 10 p) _ _ (Some (numeral false (fitting (value_of 10 0 p)))) None
    (is_no_minus d are.0) (last_false (nat_lt 1 (length p)) (d == 48 && slice_index ds 0 == 120) (last_false (d == 48) (slice_index ds 0 == 120) (is_no_hex ds are.1))) (are_all_digits d ds are)
    ∙ ap (λ (v : Option ℕ). Some (numeral false v)) fits

digits_token : (d : ℕ) (ds : List ℕ) (n : ℕ) → AreDigits (d ∷ ds) → value_of 10 0 (d ∷ ds) ≡ n → n < 2 ^ 32 → token_of (d ∷ ds) ≡ Some (Number (plain n))
unfolding token_of
digits_token d ds n are value word = rw (is_no_word d ds are.0, is_no_mark ds d are.0, is_number d ds n are value word) refl

-- ---- the pieces of the line

joined : (b c : ℕ) → is_word_byte b ≡ true → is_word_byte c ≡ true → joins b c ≡ true
joined b c first second =
    let rest : Bool = (is_blank b && is_blank c) || ((b == 46 && c == 46) || (((b == 61 || b == 33) && c == 61) || (b == 45 && is_word_byte c))) in
    ap (λ (x : Bool). (x && is_word_byte c) || rest) first ∙ ap (λ (x : Bool). x || rest) second

abbrev behind : List (List ℕ)
behind = (32 ∷ []) ∷ (123 ∷ []) ∷ []

digits_piece : (d : ℕ) (ds : List ℕ) → AreDigits (d ∷ ds) → pieces ((d ∷ ds) ++ 32 ∷ 123 ∷ []) ≡ (d ∷ ds) ∷ behind
digits_piece d [] are = by_digit (λ (x : ℕ). pieces (x ∷ 32 ∷ 123 ∷ []) ≡ (x ∷ []) ∷ behind) refl refl refl refl refl refl refl refl refl refl d are.0
digits_piece d (e ∷ es) are =
    ap (with_byte d) (digits_piece e es are.1)
    ∙ ap (λ (t : Bool). cond t ((d ∷ e ∷ es) ∷ behind) ((d ∷ []) ∷ (e ∷ es) ∷ behind)) (joined d e (is_word_digit d are.0) (is_word_digit e are.1.0))

abbrev repeat_with : List ℕ → List ℕ
repeat_with ds = codes "repeat " ++ ds ++ codes " {"

abbrev behind_repeat : List (List ℕ) → List (List ℕ)
behind_repeat ps = with_byte 114 (with_byte 101 (with_byte 112 (with_byte 101 (with_byte 97 (with_byte 116 (with_byte 32 ps))))))

line_pieces : (d : ℕ) (ds : List ℕ) → AreDigits (d ∷ ds) → pieces (repeat_with (d ∷ ds)) ≡ codes "repeat" ∷ (32 ∷ []) ∷ (d ∷ ds) ∷ behind
line_pieces d ds are =
    ap behind_repeat (digits_piece d ds are)
    ∙ by_digit (λ (x : ℕ). behind_repeat ((x ∷ ds) ∷ behind) ≡ codes "repeat" ∷ (32 ∷ []) ∷ (x ∷ ds) ∷ behind) refl refl refl refl refl refl refl refl refl refl d are.0

is_no_blank : (d : ℕ) → IsDigit d → is_blank d ≡ false
is_no_blank = by_digit (λ (x : ℕ). is_blank x ≡ false) refl refl refl refl refl refl refl refl refl refl

abbrev pub repeat_tokens : ℕ → List Token
repeat_tokens n = key keys.Repeat ∷ Number (plain n) ∷ Sign marks.Open ∷ []

ends : tokens_among behind ≡ Some (Sign marks.Open ∷ [])
unfolding token_of is_word mark_of
ends = refl

begins : token_of (codes "repeat") ≡ Some (key keys.Repeat)
unfolding token_of is_word
begins = refl

with_number : (d : ℕ) (ds : List ℕ) (n : ℕ) → AreDigits (d ∷ ds) → value_of 10 0 (d ∷ ds) ≡ n → n < 2 ^ 32 → tokens_among ((d ∷ ds) ∷ behind) ≡ Some (Number (plain n) ∷ Sign marks.Open ∷ [])
with_number d ds n are value word = rw (is_no_blank d are.0, digits_token d ds n are value word, ends) refl

pieces_tokens : (d : ℕ) (ds : List ℕ) (n : ℕ) → AreDigits (d ∷ ds) → value_of 10 0 (d ∷ ds) ≡ n → n < 2 ^ 32 → tokens_among (codes "repeat" ∷ (32 ∷ []) ∷ (d ∷ ds) ∷ behind) ≡ Some (repeat_tokens n)
pieces_tokens d ds n are value word = rw (begins, with_number d ds n are value word) refl

-- ---- bytes that are allowed and begin no comment

abbrev AreQuiet : List ℕ → Type 0
AreQuiet [] = Unit {0}
AreQuiet (b ∷ bs) = (is_bad_byte b ≡ false) × ((b == 35) ≡ false) × AreQuiet bs

quiet_both : (xs ys : List ℕ) → AreQuiet xs → AreQuiet ys → AreQuiet (xs ++ ys)
quiet_both [] ys are also = also
quiet_both (b ∷ bs) ys are also = (are.0, are.1, quiet_both bs ys are.2 also)

quiet_digits : (ds : List ℕ) → AreDigits ds → AreQuiet ds
quiet_digits [] are = tt
quiet_digits (d ∷ ds) are = (
  by_digit (λ (x : ℕ). is_bad_byte x ≡ false) refl refl refl refl refl refl refl refl refl refl d are.0,
  by_digit (λ (x : ℕ). (x == 35) ≡ false) refl refl refl refl refl refl refl refl refl refl d are.0,
  quiet_digits ds are.1,
)

all_fine : (l : List ℕ) → AreQuiet l → list_any is_bad_byte l ≡ false
all_fine [] are = refl
all_fine (b ∷ bs) are = ap (λ (x : Bool). x || list_any is_bad_byte bs) are.0 ∙ all_fine bs are.2

no_end : (l : List ℕ) → AreQuiet l → length_until 35 l ≡ length l
no_end [] are = refl
no_end (b ∷ bs) are =
    let first : length_until 35 (b ∷ bs) ≡ length_until 35 bs + 1 = ap (λ (x : Bool). cond x 0 (length_until 35 bs + 1)) are.1 in
    omega (arith, first, no_end bs are.2)

no_comment : (l : List ℕ) → AreQuiet l → uncommented l ≡ l
no_comment l are = ap (λ (k : ℕ). take k l) (no_end l are) ∙ take-length l

quiet_line : (ds : List ℕ) → AreDigits ds → AreQuiet (repeat_with ds)
quiet_line ds are =
    quiet_both (codes "repeat " ++ ds) (codes " {")
    (quiet_both (codes "repeat ") ds (refl, refl, (refl, refl, (refl, refl, (refl, refl, (refl, refl, (refl, refl, (refl, refl, tt))))))) (quiet_digits ds are))
    (refl, refl, (refl, refl, tt))

-- ---- no carriage return ends the line

last_true : (a b : Bool) → b ≡ true → (a || b) ≡ true
last_true true b is = refl
last_true false b is = is

stripped_kept : (xs : List ℕ) (b : ℕ) → (b == 13) ≡ false → stripped (xs ++ b ∷ []) ≡ xs ++ b ∷ []
stripped_kept xs b other =
    let l : List ℕ = xs ++ b ∷ [] in
    let place : length l - 1 ≡ length xs = omega (arith, length-append xs (b ∷ [])) in
    let last : slice_index l (length l - 1) ≡ b = ap (slice_index l) place ∙ get_or-append_seam xs b [] 0 in
    let kept : (length l == 0 || not (slice_index l (length l - 1) == 13)) ≡ true = last_true (length l == 0) (not (slice_index l (length l - 1) == 13)) (ap (λ (x : ℕ). not (x == 13)) last ∙ ap not other) in
    ap (λ (t : Bool). cond t l (take (length l - 1) l)) kept

pub repeat_kept : (n : ℕ) → stripped (repeat_line n) ≡ repeat_line n
repeat_kept n =
    let split : repeat_line n ≡ (codes "repeat " ++ decimal n ++ 32 ∷ []) ++ 123 ∷ [] = simp append_assoc in
    subst (λ (l : List ℕ). stripped l ≡ l) (sym split) (stripped_kept (codes "repeat " ++ decimal n ++ 32 ∷ []) 123 refl)

-- ---- the whole line

line_tokens : (ds : List ℕ) (n : ℕ) → IsWritten n ds → n ≤ 2000 → tokens_of (uncommented (repeat_with ds)) ≡ Some (repeat_tokens n)
unfolding tokens_of
line_tokens [] n is small = absurd (omega (arith, is.some))
line_tokens (d ∷ ds) n is small =
    ap (λ (l : List ℕ). tokens_among (pieces l)) (no_comment (repeat_with (d ∷ ds)) (quiet_line (d ∷ ds) is.digits))
    ∙ ap tokens_among (line_pieces d ds is.digits)
    ∙ pieces_tokens d ds n is.digits is.value (omega (arith, small))

pub repeat_fine : (n : ℕ) → n ≤ 2000 → list_any is_bad_byte (repeat_line n) ≡ false
repeat_fine n small = all_fine (repeat_line n) (quiet_line (decimal n) (is_written n small).digits)

pub repeat_read : (n : ℕ) → n ≤ 2000 → tokens_of (uncommented (repeat_line n)) ≡ Some (repeat_tokens n)
repeat_read n small = line_tokens (decimal n) n (is_written n small) small
