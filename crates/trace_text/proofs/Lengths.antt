-- How long numbers and short lines are.
use Rattle.std.proofs.Common.{◌≡◌, ℕ, zero, suc, ◌+◌, ◌-◌, ◌/◌, ◌%◌, ◌^◌, ◌<◌, ◌≤◌, inl, inr, false, List, [], ◌∷◌, length, ap, arith, length-append}
use Rattle.std.proofs.lemmas.Bool.{cases_eq}
use Rattle.std.proofs.lemmas.List.{length-replicate}
use Rattle.std.proofs.lemmas.Bool.Decides.{nat_tests}
use Rattle.std.specs.Fmt.{digits_onto, digit_glyph, digits, decimal, padded_integral, char_count, format_spec}
use Rattle.replay_check.specs.declared.verdict.Verdict.{Verdict}
use Rattle.replay_check.specs.declared.verdict.Verdict.TheVariants.{Yes, No}
use Rattle.tpl_lang.specs.declared.fault.Fault.{Fault}
use Rattle.tpl_lang.specs.declared.fault.Kind.{Kind}
use Rattle.tpl_lang.specs.declared.fault.Kind.TheVariants.{BadByte, Unexpected, NumberTooLarge, UnknownName, DoubleName, NameTwiceInLeaf, EmptyDomain, TooDeep, TooLong, TooMany, BadRam, BadStart}
use Rattle.trace_text.specs.Numbers.{hex8}
use Rattle.trace_text.specs.Faults.{fault_head, fault_line, fault_text, kind_text}
use Rattle.trace_text.specs.Verdicts.{no_text, verdict_text, malformed_text, gave_up_text}

-- ---- numbers

-- so many digits are written at most
abbrev Few : ℕ → ℕ → ℕ → Type 0
Few base n count = (places : ℕ) (acc : List ℕ) → length (digits_onto places base false n acc) ≤ count + length acc

none_left : (places base n : ℕ) (acc : List ℕ) → n / base ≡ 0 → digits_onto (suc places) base false n acc ≡ digit_glyph false (n % base) ∷ acc
none_left places base n acc none = grind (arith, nat_tests)

some_left : (places base n : ℕ) (acc : List ℕ) → (n / base ≡ 0 → ⊥) → digits_onto (suc places) base false n acc ≡ digits_onto places base false (n / base) (digit_glyph false (n % base) ∷ acc)
some_left places base n acc some = grind (arith, nat_tests)

few_one : (base n : ℕ) → n / base ≡ 0 → (places : ℕ) (acc : List ℕ) → length (digits_onto places base false n acc) ≤ 1 + length acc
few_one base n none zero acc = omega arith
few_one base n none (suc places) acc = omega (arith, ap length (none_left places base n acc none))

few_more : (base n count : ℕ) → Few base (n / base) count → (places : ℕ) (acc : List ℕ) → length (digits_onto places base false n acc) ≤ suc count + length acc
few_more base n count few zero acc = omega arith
few_more base n count few (suc places) acc =
    elim (cases_eq (n / base) 0) [
      | inl none ↦ omega (arith, ap length (none_left places base n acc none))
      | inr some ↦ omega (arith, ap length (some_left places base n acc some), few places (digit_glyph false (n % base) ∷ acc))
    ]

any_few : (places base n : ℕ) (acc : List ℕ) → length (digits_onto places base false n acc) ≤ places + length acc
any_few zero base n acc = omega arith
any_few (suc places) base n acc =
    elim (cases_eq (n / base) 0) [
      | inl none ↦ omega (arith, ap length (none_left places base n acc none))
      | inr some ↦ omega (arith, ap length (some_left places base n acc some), any_few places base (n / base) (digit_glyph false (n % base) ∷ acc))
    ]

pub decimal_short : (n : ℕ) → length (decimal n) ≤ 64
unfolding digits
decimal_short n = omega (arith, any_few 64 10 n [])

pub decimal_one : (n : ℕ) → n < 10 → length (decimal n) ≤ 1
unfolding digits
decimal_one n small = omega (arith, few_one 10 n (omega (arith, small)) 64 [])

pub decimal_two : (n : ℕ) → n < 100 → length (decimal n) ≤ 2
unfolding digits
decimal_two n small = omega (arith, few_more 10 n 1 (few_one 10 (n / 10) (omega (arith, small))) 64 [])

pub decimal_four : (n : ℕ) → n < 10000 → length (decimal n) ≤ 4
unfolding digits
decimal_four n small =
    let b : n / 10 < 1000 = omega (arith, small) in
    let c : n / 10 / 10 < 100 = omega (arith, b) in
    let d : n / 10 / 10 / 10 / 10 ≡ 0 = omega (arith, c) in
    omega (arith, few_more 10 n 3 (few_more 10 (n / 10) 2 (few_more 10 (n / 10 / 10) 1 (few_one 10 (n / 10 / 10 / 10) d))) 64 [])

eight_digits : (n : ℕ) → n < 2 ^ 32 → length (digits 16 false n) ≤ 8
unfolding digits
eight_digits n small =
    let b : n / 16 < 2 ^ 28 = omega (arith, small) in
    let c : n / 16 / 16 < 2 ^ 24 = omega (arith, b) in
    let d : n / 16 / 16 / 16 < 2 ^ 20 = omega (arith, c) in
    let e : n / 16 / 16 / 16 / 16 < 2 ^ 16 = omega (arith, d) in
    let f : n / 16 / 16 / 16 / 16 / 16 < 2 ^ 12 = omega (arith, e) in
    let g : n / 16 / 16 / 16 / 16 / 16 / 16 < 2 ^ 8 = omega (arith, f) in
    let h : n / 16 / 16 / 16 / 16 / 16 / 16 / 16 < 2 ^ 4 = omega (arith, g) in
    let i : n / 16 / 16 / 16 / 16 / 16 / 16 / 16 / 16 ≡ 0 = omega (arith, h) in
    omega (arith, few_more 16 n 7 (few_more 16 (n / 16) 6 (few_more 16 (n / 16 / 16) 5 (few_more 16 (n / 16 / 16 / 16) 4 (few_more 16 (n / 16 / 16 / 16 / 16) 3 (few_more 16 (n / 16 / 16 / 16 / 16 / 16) 2 (few_more 16 (n / 16 / 16 / 16 / 16 / 16 / 16) 1 (few_one 16 (n / 16 / 16 / 16 / 16 / 16 / 16 / 16) i))))))) 64 [])

padded_short : (ds : List ℕ) → length ds ≤ 8 → length (padded_integral (format_spec 32 0 4 8 (2 ^ 64 - 1)) false [] ds) ≤ 8
unfolding padded_integral char_count
padded_short ds short = simp (length-append, length-replicate) (omega arith)

-- a word has eight digits
pub hex_short : (n : ℕ) → n < 2 ^ 32 → length (hex8 n) ≤ 8
hex_short n word = padded_short (digits 16 false n) (eight_digits n word)

-- ---- short lines

no_short : (kind hart step : ℕ) → length (no_text kind hart step) ≤ 256
unfolding no_text
no_short kind hart step = simp length-append (omega (arith, decimal_short kind, decimal_short hart, decimal_short step))

pub verdict_short : (v : Verdict) → length (verdict_text v) ≤ 256
verdict_short Yes = omega arith
verdict_short (No kind hart step) = no_short kind hart step

pub malformed_short : (part : ℕ) → length (malformed_text part) ≤ 256
unfolding malformed_text
malformed_short part = simp length-append (omega (arith, decimal_short part))

pub gave_up_short : (none_fits spent last_line : ℕ) → length (gave_up_text none_fits spent last_line) ≤ 256
unfolding gave_up_text
gave_up_short none_fits spent last_line = simp length-append (omega (arith, decimal_short none_fits, decimal_short spent, decimal_short last_line))

kind_short : (k : Kind) → length (kind_text k) ≤ 18
kind_short BadByte = omega arith
kind_short Unexpected = omega arith
kind_short NumberTooLarge = omega arith
kind_short UnknownName = omega arith
kind_short DoubleName = omega arith
kind_short NameTwiceInLeaf = omega arith
kind_short EmptyDomain = omega arith
kind_short TooDeep = omega arith
kind_short TooLong = omega arith
kind_short TooMany = omega arith
kind_short BadRam = omega arith
kind_short BadStart = omega arith

head_short : (line : ℕ) → length (fault_head line) ≤ 100
unfolding fault_head
head_short line = simp length-append (omega (arith, decimal_short line))

pub fault_short : (f : Fault) → length (fault_text f) ≤ 256
unfolding fault_line
fault_short f = simp length-append (omega (arith, head_short f.line, kind_short f.kind))
