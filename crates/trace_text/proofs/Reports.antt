-- How long the lines of a well-formed certificate's report are, and how many there are of each kind.
use Rattle.std.proofs.Common.{◌≡◌, ℕ, zero, suc, ◌+◌, ◌-◌, ◌*◌, ◌^◌, ◌<◌, ◌≤◌, ◌⊎◌, inl, inr, Bool, false, true, if◌then◌else◌, nat_lt, nat_le, nat_eq, Option, None, Some, List, [], ◌∷◌, ◌++◌, length, drop, find, eqb, ap, subst, arith, length-append, codes, refl}
use Rattle.std.specs.Prelude.{encode_utf8, slice_get, sum_by, ◌==◌, ◌||◌, ◌&&◌}
use Rattle.std.specs.List.{AllByRecursion, flat_map, enumerate_from, list_any, zip}
use Rattle.std.specs.Fmt.{decimal}
use Rattle.std.proofs.Math.ListN.{get_or}
use Rattle.std.proofs.lemmas.Bool.{and_parts, cases_lt, eqb-true, ltb-true, or_cases}
use Rattle.std.proofs.lemmas.Bool.Decides.{nat_tests}
use Rattle.std.proofs.lemmas.List.Sums.{sum_by-cons}
use Rattle.std.proofs.lemmas.Option.{slice_get_within}
use Rattle.std.proofs.lemmas.Str.{length-encode, len_utf8_bounds}
use Rattle.rv_script.specs.declared.access.Access.{Access}
use Rattle.rv_script.specs.declared.access.Role.{Role}
use Rattle.rv_script.specs.declared.access.Role.TheVariants.{Fetch, Walk, Load, Store}
use Rattle.rv_csr.specs.declared.privilege.Priv.{Priv}
use Rattle.rv_csr.specs.declared.privilege.Priv.TheVariants.{U, S, M}
use Rattle.rv_csr.specs.declared.table.LazyRegister.TheVariants.{Stvec, Sscratch, Sepc, Scause, Stval, Mtvec, Mscratch, Mepc, Mcause, Mtval}
use Rattle.rv_csr.specs.declared.table.Register.{Register}
use Rattle.rv_csr.specs.declared.table.Register.TheVariants.{Sstatus, Satp, Mstatus, Medeleg, Mhartid, Lazy}
use Rattle.rv_csr.specs.Table.{address_of, csr_key, lazy_csrs, registers}
use Rattle.rv_hart.specs.declared.record.Outcome.{Outcome}
use Rattle.rv_hart.specs.declared.record.Outcome.TheVariants.{Retired, Trap}
use Rattle.rv_hart.specs.declared.record.Record.{Record}
use Rattle.rv_hart.specs.Effects.{IsAccess}
use Rattle.tpl_ast.specs.declared.template.HartState.{HartState}
use Rattle.tpl_ast.specs.declared.template.NameDecl.{NameDecl}
use Rattle.tpl_ast.specs.declared.template.Region.{Region}
use Rattle.tpl_lang.specs.Laws.{TemplatesKeepLimits}
use Rattle.tpl_ast.specs.States.{ArePlaces, AreStartWords, IsState, IsWord, is_in_ram}
use Rattle.tpl_ast.specs.Templates.{IsFramed, IsShortName}
use Rattle.tpl_admit.specs.declared.certificate.Cert.{Cert}
use Rattle.tpl_admit.specs.declared.dropped.Dropped.{Dropped}
use Rattle.tpl_admit.specs.declared.dropped.Why.{Why}
use Rattle.tpl_admit.specs.declared.dropped.Why.TheVariants.{NoneFits, Spent}
use Rattle.tpl_admit.specs.Sizes.{name_of}
use Rattle.tpl_admit.specs.Starts.{trace_of, final_of, no_state}
use Rattle.tpl_admit.specs.WellFormed.{AreDropped, AreNamed, IsNamed, IsOutcome, IsRecord, IsWellFormed, IsWritten}
use Rattle.trace_text.specs.Numbers.{letter, role_name, name_in as csr_name_in, csr_name, place_name}
use Rattle.trace_text.specs.Steps.{access_text, accesses_text, outcome_text, rd_text, step_head, fetched_text, step_end, step_line, steps_text}
use Rattle.trace_text.specs.Rest.{choice_line, choices_text, dropped_line, dropped_text, name_line, name_text, names_text, why_text}
use Rattle.trace_text.specs.Report.{state_head, state_csrs, state_line, place_line, places_text, hart_text, harts_text, word_line, words_text, harts_line, report_text}
use Rattle.trace_text.proofs.Lengths.{decimal_short, decimal_one, decimal_two, decimal_four, hex_short}
use Rattle.trace_text.proofs.Parts.{hart_of}

-- lines of one length at most
lines_short : {X : Type 0} (f : X → List ℕ) (P : X → Type 0) (most : ℕ) → ((x : X) → P x → length (f x) ≤ most) → (xs : List X) → AllByRecursion P xs → length (flat_map f xs) ≤ most * length xs
lines_short f P most each [] all = omega arith
lines_short f P most each (x ∷ xs) all =
    let more : most * suc (length xs) ≡ most + most * length xs = omega arith in
    simp length-append (omega (arith, each x all.0, lines_short f P most each xs all.1, more))

-- ---- steps

letter_short : (p : Priv) → length (letter p) ≤ 1
letter_short U = omega arith
letter_short S = omega arith
letter_short M = omega arith

role_short : (r : Role) → length (role_name r) ≤ 5
role_short Fetch = omega arith
role_short Walk = omega arith
role_short Load = omega arith
role_short Store = omega arith

size_cases : (n : ℕ) → (n == 1 || (n == 2 || n == 4)) ≡ true → (n ≡ 1) ⊎ ((n ≡ 2) ⊎ (n ≡ 4))
size_cases n e = elim (or_cases (n == 1) (n == 2 || n == 4) e) [
  | inl one ↦ inl (eqb-true n 1 one)
  | inr rest ↦ elim (or_cases (n == 2) (n == 4) rest) [
    | inl two ↦ inr (inl (eqb-true n 2 two))
    | inr four ↦ inr (inr (eqb-true n 4 four))
  ]
]

value_word : (n v : ℕ) → (n ≡ 1) ⊎ ((n ≡ 2) ⊎ (n ≡ 4)) → v < 2 ^ (8 * n) → (n < 10) × (v < 2 ^ 32)
value_word n v (inl e) fits = let f : v < 2 ^ 8 = subst (λ (k : ℕ). v < 2 ^ (8 * k)) e fits in (omega (arith, e), omega (arith, f))
value_word n v (inr (inl e)) fits = let f : v < 2 ^ 16 = subst (λ (k : ℕ). v < 2 ^ (8 * k)) e fits in (omega (arith, e), omega (arith, f))
value_word n v (inr (inr e)) fits = let f : v < 2 ^ 32 = subst (λ (k : ℕ). v < 2 ^ (8 * k)) e fits in (omega (arith, e), f)

access_short : (a : Access) → IsAccess a → length (access_text a) ≤ 26
unfolding access_text
access_short a is =
    let fits = value_word a.size a.value (size_cases a.size is.size) is.value in
    simp length-append (omega (arith, role_short a.role, hex_short a.addr is.addr, decimal_one a.size fits.0, hex_short a.value fits.1))

accesses_short : (accesses : List Access) → AllByRecursion IsAccess accesses → length accesses ≤ 8 → length (accesses_text accesses) ≤ 208
unfolding accesses_text
accesses_short accesses are few = omega (arith, lines_short access_text IsAccess 26 access_short accesses are, few)

outcome_short : (o : Outcome) → IsOutcome o → length (outcome_text o) ≤ 83
unfolding outcome_text
outcome_short Retired is = omega arith
outcome_short (Trap cause value to) is = simp length-append (omega (arith, decimal_short cause, hex_short value is.1, letter_short to))

rd_short : (rd : Option (ℕ × ℕ)) → IsWritten rd → length (rd_text rd) ≤ 75
unfolding rd_text
rd_short None is = omega arith
rd_short (Some (n, value)) is = simp length-append (omega (arith, decimal_short n, hex_short value is.2))

step_head_short : (hart step pc : ℕ) → IsWord pc → length (step_head hart step pc) ≤ 147
unfolding step_head
step_head_short hart step pc is = simp length-append (omega (arith, decimal_short hart, decimal_short step, hex_short pc is))

fetched_short : (p : Priv) (word : ℕ) → IsWord word → length (fetched_text p word) ≤ 11
unfolding fetched_text
fetched_short p word is = simp length-append (omega (arith, letter_short p, hex_short word is))

step_end_short : (pc : ℕ) → IsWord pc → length (step_end pc) ≤ 15
unfolding step_end
step_end_short pc is = simp length-append (omega (arith, hex_short pc is))

pub step_short : (hart step : ℕ) (r : Record) → IsRecord r → length (step_line hart step r) ≤ 539
unfolding step_line
step_short hart step r is =
    simp length-append (omega (arith, step_head_short hart step r.pc is.pc, fetched_short r.privilege r.word is.word, outcome_short r.outcome is.outcome, rd_short r.rd is.rd, accesses_short r.accesses is.accesses is.count, step_end_short r.next_pc is.next_pc))

steps_from_short : (hart n : ℕ) (records : List Record) → AllByRecursion IsRecord records → length (flat_map (λ (p : ℕ × Record). step_line hart p.0 p.1) (enumerate_from n records)) ≤ 539 * length records
steps_from_short hart n [] are = omega arith
steps_from_short hart n (r ∷ rs) are = simp length-append (omega (arith, step_short hart n r are.0, steps_from_short hart (n + 1) rs are.1))

steps_short : (hart : ℕ) (records : List Record) → AllByRecursion IsRecord records → length (steps_text hart records) ≤ 539 * length records
unfolding steps_text
steps_short hart records are = steps_from_short hart 0 records are

-- ---- places

-- how many of the keys there are from a number on
keys_from : ℕ → List ℕ → ℕ
keys_from n [] = 0
keys_from n (a ∷ addrs) = (if nat_le n (csr_key a) then 1 else 0) + keys_from n addrs

keys_fewer : (n m : ℕ) (addrs : List ℕ) → n ≤ m → keys_from m addrs ≤ keys_from n addrs
unfolding keys_from
keys_fewer n m [] le = omega arith
keys_fewer n m (a ∷ addrs) le = elim (cases_lt (csr_key a) m) [
  | inl below ↦ let none : nat_le m (csr_key a) ≡ false = grind (arith, nat_tests) in rw none (omega (arith, keys_fewer n m addrs le))
  | inr above ↦
      let here : nat_le m (csr_key a) ≡ true = grind (arith, nat_tests) in
      let there : nat_le n (csr_key a) ≡ true = grind (arith, nat_tests) in
      rw (here, there) (omega (arith, keys_fewer n m addrs le))
]

one_key : (b : Bool) (n m : ℕ) → n ≤ m → (if b then 1 else 0) + n ≤ suc m
one_key true n m le = omega (arith, le)
one_key false n m le = omega (arith, le)

keys_all : (n : ℕ) (addrs : List ℕ) → keys_from n addrs ≤ length addrs
unfolding keys_from
keys_all n [] = omega arith
keys_all n (a ∷ addrs) = one_key (nat_le n (csr_key a)) (keys_from n addrs) (length addrs) (keys_all n addrs)

-- a key that is there is no longer among those behind it
key_counted : (n key : ℕ) (addrs : List ℕ) → list_any (λ addr. nat_eq key (csr_key addr)) addrs ≡ true → n ≤ key → keys_from (key + 1) addrs + 1 ≤ keys_from n addrs
unfolding keys_from
key_counted n key [] found le = absurd (cc found)
key_counted n key (a ∷ addrs) found le = elim (or_cases (nat_eq key (csr_key a)) (list_any (λ addr. nat_eq key (csr_key addr)) addrs) found) [
  | inl same ↦
      let is : key ≡ csr_key a = eqb-true key (csr_key a) same in
      let none : nat_le (key + 1) (csr_key a) ≡ false = grind (arith, nat_tests) in
      let here : nat_le n (csr_key a) ≡ true = grind (arith, nat_tests) in
      rw (none, here) (omega (arith, keys_fewer n (key + 1) addrs (omega arith)))
  | inr rest ↦ both (nat_le (key + 1) (csr_key a)) (nat_le n (csr_key a)) (λ e. grind (arith, nat_tests)) (key_counted n key addrs rest le)
] where
  both : (b d : Bool) → (b ≡ true → d ≡ true) → keys_from (key + 1) addrs + 1 ≤ keys_from n addrs → (if b then 1 else 0) + keys_from (key + 1) addrs + 1 ≤ (if d then 1 else 0) + keys_from n addrs
  both true true h more = omega (arith, more)
  both true false h more = absurd (cc (h refl))
  both false true h more = omega (arith, more)
  both false false h more = omega (arith, more)

places_behind : (from : ℕ) (es : List (ℕ × ℕ)) → ArePlaces from es → length es ≤ (32 - from) + keys_from from lazy_csrs
places_behind from [] are = omega arith
places_behind from (e ∷ es) are = elim (or_cases (nat_le 1 e.0 && nat_lt e.0 32) (list_any (λ addr. nat_eq e.0 (csr_key addr)) lazy_csrs) are.1) [
  | inl register ↦
      let below : e.0 < 32 = ltb-true e.0 32 (and_parts (nat_le 1 e.0) (nat_lt e.0 32) register).1 in
      omega (arith, below, are.0, places_behind (e.0 + 1) es are.3, keys_fewer from (e.0 + 1) lazy_csrs (omega (arith, are.0)))
  | inr csr ↦ omega (arith, are.0, places_behind (e.0 + 1) es are.3, key_counted from e.0 lazy_csrs csr are.0)
]

places_few : (es : List (ℕ × ℕ)) → ArePlaces 0 es → length es ≤ 42
places_few es are = omega (arith, places_behind 0 es are, keys_all 0 lazy_csrs, ten) where
  ten : length lazy_csrs ≡ 10
  ten = refl

csr_short : (key : ℕ) → length (csr_name key) ≤ 8
csr_short key = go (find (λ (register : Register). eqb (csr_key (address_of register)) key) registers)
  where
    go : (o : Option Register) → length (csr_name_in o) ≤ 8
    go None = omega arith
    go (Some Sstatus) = omega arith
    go (Some Satp) = omega arith
    go (Some Mstatus) = omega arith
    go (Some Medeleg) = omega arith
    go (Some Mhartid) = omega arith
    go (Some (Lazy Stvec)) = omega arith
    go (Some (Lazy Sscratch)) = omega arith
    go (Some (Lazy Sepc)) = omega arith
    go (Some (Lazy Scause)) = omega arith
    go (Some (Lazy Stval)) = omega arith
    go (Some (Lazy Mtvec)) = omega arith
    go (Some (Lazy Mscratch)) = omega arith
    go (Some (Lazy Mepc)) = omega arith
    go (Some (Lazy Mcause)) = omega arith
    go (Some (Lazy Mtval)) = omega arith

register_short : (key : ℕ) → length (codes "x" ++ decimal key) ≤ 65
register_short key = simp length-append (omega (arith, decimal_short key))

split_short : (b : Bool) (x y : List ℕ) → length x ≤ 65 → length y ≤ 8 → length (if b then x else y) ≤ 65
split_short true x y hx hy = hx
split_short false x y hx hy = omega (arith, hy)

place_name_short : (key : ℕ) → length (place_name key) ≤ 65
unfolding place_name
place_name_short key = split_short (nat_lt key 32) (codes "x" ++ decimal key) (csr_name key) (register_short key) (csr_short key)

place_short : (word : List ℕ) (k : ℕ) → length word ≤ 8 → (place : ℕ × ℕ) → IsWord place.1 → length (place_line word k place) ≤ 149
unfolding place_line
place_short word k short place is = simp length-append (omega (arith, short, decimal_short k, place_name_short place.0, hex_short place.1 is))

place_lines_short : (word : List ℕ) (k : ℕ) → length word ≤ 8 → (from : ℕ) (places : List (ℕ × ℕ)) → ArePlaces from places → length (flat_map (place_line word k) places) ≤ 149 * length places
place_lines_short word k short from [] are = omega arith
place_lines_short word k short from (e ∷ es) are = simp length-append (omega (arith, place_short word k short e are.2, place_lines_short word k short (e.0 + 1) es are.3))

-- 149 bytes for each of 42 places
places_short : (word : List ℕ) (k : ℕ) → length word ≤ 8 → (places : List (ℕ × ℕ)) → ArePlaces 0 places → length (places_text word k places) ≤ 6258
unfolding places_text
places_short word k short places are = omega (arith, place_lines_short word k short 0 places are, places_few places are)

-- ---- harts

state_head_short : (word : List ℕ) (k : ℕ) (s : HartState) → length word ≤ 8 → IsState s → length (state_head word k s) ≤ 92
unfolding state_head
state_head_short word k s short is = simp length-append (omega (arith, short, decimal_short k, hex_short s.pc is.pc, letter_short s.privilege))

state_csrs_short : (s : HartState) → IsState s → length (state_csrs s) ≤ 50
unfolding state_csrs
state_csrs_short s is = simp length-append (omega (arith, hex_short s.mstatus is.mstatus, hex_short s.medeleg is.medeleg, hex_short s.satp is.satp))

state_short : (word : List ℕ) (k : ℕ) (s : HartState) → length word ≤ 8 → IsState s → length (state_line word k s) ≤ 142
unfolding state_line
state_short word k s short is = simp length-append (omega (arith, state_head_short word k s short is, state_csrs_short s is))

hart_short : (k : ℕ) (start : HartState) (records : List Record) (end : HartState) → IsState start → AllByRecursion IsRecord records → IsState end → length (hart_text k start records end) ≤ 12800 + 539 * length records
unfolding hart_text
hart_short k start records end first are last =
    simp length-append (omega (
      arith,
      state_short (codes "hart") k start (omega arith) first,
      places_short (codes "start") k (omega arith) start.places first.places,
      steps_short k records are,
      state_short (codes "end") k end (omega arith) last,
      places_short (codes "final") k (omega arith) end.places last.places,
    ))

-- how many steps there are
steps_in : List (List Record) → ℕ
steps_in [] = 0
steps_in (t ∷ ts) = length t + steps_in ts

steps_are : (traces : List (List Record)) → sum_by (λ t. length t) traces ≡ steps_in traces
unfolding steps_in
steps_are [] = refl
steps_are (t ∷ ts) = let h = sum_by-cons (λ (x : List Record). length x) t ts in let r = steps_are ts in omega (arith, h, r)

-- what stands at n counts with what stands after it
trace_counted : (traces : List (List Record)) (n : ℕ) → length (get_or traces n []) + steps_in (drop (suc n) traces) ≤ steps_in (drop n traces)
unfolding steps_in
trace_counted [] zero = omega arith
trace_counted [] (suc n) = omega arith
trace_counted (t ∷ ts) zero = omega arith
trace_counted (t ∷ ts) (suc n) = trace_counted ts n

trace_at : (traces : List (List Record)) (n : ℕ) → AllByRecursion (λ t. AllByRecursion IsRecord t) traces → AllByRecursion IsRecord (get_or traces n [])
trace_at [] n are = tt
trace_at (t ∷ ts) zero are = are.0
trace_at (t ∷ ts) (suc n) are = trace_at ts n are.1

final_at : (finals : List HartState) (n : ℕ) → n < length finals → AllByRecursion IsState finals → IsState (get_or finals n no_state)
final_at [] n within are = absurd (omega (arith, within))
final_at (s ∷ ss) zero within are = are.0
final_at (s ∷ ss) (suc n) within are = final_at ss n (omega (arith, within)) are.1

harts_from_short : (c : Cert) (n : ℕ) (ss : List HartState) → n + length ss ≤ length c.finals → AllByRecursion IsState ss → AllByRecursion IsState c.finals → AllByRecursion (λ t. AllByRecursion IsRecord t) c.traces
    → length (flat_map (hart_of c) (enumerate_from n ss)) ≤ 12800 * length ss + 539 * steps_in (drop n c.traces)
harts_from_short c n [] within starts finals traces = omega arith
harts_from_short c n (s ∷ ss) within starts finals traces =
    let next : n + 1 ≡ suc n = omega arith in
    let behind : steps_in (drop (n + 1) c.traces) ≡ steps_in (drop (suc n) c.traces) = ap (λ m. steps_in (drop m c.traces)) next in
    simp length-append (omega (
      arith,
      hart_short n s (trace_of c n) (final_of c n) starts.0 (trace_at c.traces n traces) (final_at c.finals n (omega (arith, within)) finals),
      harts_from_short c (n + 1) ss (omega (arith, within)) starts.1 finals traces,
      trace_counted c.traces n,
    ))

-- 12,800 bytes for each of 4 harts, and 539 for each of 8,192 steps
harts_short : (c : Cert) → IsWellFormed c → length (harts_text c) ≤ 4466688
unfolding harts_text
harts_short c is = omega (arith, harts_from_short c 0 c.start (omega (arith, is.finals_count)) is.start is.finals is.traces, is.harts, is.steps, steps_are c.traces)

-- ---- words

in_word : (ram : List Region) (a : ℕ) → AllByRecursion IsFramed ram → is_in_ram ram a ≡ true → IsWord a
in_word [] a framed found = absurd (cc found)
in_word (r ∷ rs) a framed found = elim (or_cases (nat_le r.low a && nat_lt a r.high) (is_in_ram rs a) found) [
  | inl here ↦ omega (arith, ltb-true a r.high (and_parts (nat_le r.low a) (nat_lt a r.high) here).1, framed.0.most)
  | inr there ↦ in_word rs a framed.1 there
]

word_short : (w : (ℕ × ℕ) × ℕ) → IsWord w.0.0 → IsWord w.0.1 → IsWord w.1 → length (word_line w) ≤ 32
unfolding word_line
word_short w a b c = simp length-append (omega (arith, hex_short w.0.0 a, hex_short w.0.1 b, hex_short w.1 c))

word_lines_short : (ram : List Region) → AllByRecursion IsFramed ram → (from : ℕ) (words : List (ℕ × ℕ)) (last : List ℕ) → AreStartWords ram from words → AllByRecursion IsWord last → length (flat_map word_line (zip words last)) ≤ 32 * length words
word_lines_short ram framed from [] last are ends = omega arith
word_lines_short ram framed from (w ∷ ws) [] are ends = omega arith
word_lines_short ram framed from (w ∷ ws) (v ∷ vs) are ends =
    simp length-append (omega (arith, word_short (w, v) (in_word ram w.0 framed are.2) are.3 ends.0, word_lines_short ram framed (w.0 + 4) ws vs are.4 ends.1))

-- 32 bytes for each of 60,000 words
words_short : (c : Cert) → TemplatesKeepLimits → IsWellFormed c → length (words_text c.words c.last) ≤ 1920000
unfolding words_text
words_short c keep is = omega (arith, word_lines_short c.template.ram (keep c.template.text c.template is.template).ram 0 c.words c.last is.words is.last, is.words_count)

-- ---- names, choices and dropped biases

harts_line_short : (n : ℕ) → length (harts_line n) ≤ 72
unfolding harts_line
harts_line_short n = simp length-append (omega (arith, decimal_short n))

one_letter_short : (c : ℕ) → length (encode_utf8 c) ≤ 4
one_letter_short c = omega (arith, length-encode c, (len_utf8_bounds c).1)

name_text_short : (letters : List ℕ) → length (name_text letters) ≤ 4 * length letters
unfolding name_text
name_text_short [] = omega arith
name_text_short (c ∷ cs) = simp length-append (omega (arith, one_letter_short c, name_text_short cs))

name_of_short : (names : List NameDecl) → AllByRecursion IsShortName names → (index : ℕ) → length (name_of names index) ≤ 32
name_of_short [] short index = omega arith
name_of_short (d ∷ ds) short zero = short.0
name_of_short (d ∷ ds) short (suc index) = name_of_short ds short.1 index

name_line_short : (names : List NameDecl) → AllByRecursion IsShortName names → (e : ℕ × ℕ) → IsWord e.1 → length (name_line names e) ≤ 143
unfolding name_line
name_line_short names short e is = simp length-append (omega (arith, name_text_short (name_of names e.0), name_of_short names short e.0, hex_short e.1 is))

named_within : (o : Option NameDecl) (value : ℕ) → IsNamed o value → (d : NameDecl) × (o ≡ Some d)
named_within None value is = absurd is
named_within (Some d) value is = (d, refl)

name_lines_short : (names : List NameDecl) → AllByRecursion IsShortName names → (from : ℕ) (values : List (ℕ × ℕ)) → AreNamed names from values → length (flat_map (name_line names) values) ≤ 143 * (length names - from)
name_lines_short names short from [] are = omega arith
name_lines_short names short from (e ∷ es) are =
    let there = named_within (slice_get names e.0) e.1 are.3 in
    let within : e.0 < length names = slice_get_within names e.0 there.0 there.1 in
    simp length-append (omega (arith, name_line_short names short e are.2, name_lines_short names short (e.0 + 1) es are.4, within, are.0))

-- 143 bytes for each of 256 names
names_short : (c : Cert) → TemplatesKeepLimits → IsWellFormed c → length (names_text c.template.names c.names) ≤ 36608
unfolding names_text
names_short c keep is =
    let limits = keep c.template.text c.template is.template in
    omega (arith, name_lines_short c.template.names limits.names 0 c.names is.names, limits.names_count)

choice_lines_short : (n : ℕ) (choices : List ℕ) → length (flat_map (λ (p : ℕ × ℕ). choice_line p.0 p.1) (enumerate_from n choices)) ≤ 137 * length choices
unfolding choice_line
choice_lines_short n [] = omega arith
choice_lines_short n (w ∷ ws) = simp length-append (omega (arith, decimal_short n, decimal_short w, choice_lines_short (n + 1) ws))

-- 137 bytes for each of 8,192 choices
choices_short : (c : Cert) → IsWellFormed c → length (choices_text c.choices) ≤ 1122304
unfolding choices_text
choices_short c is = omega (arith, choice_lines_short 0 c.choices, is.choices_count)

why_short : (w : Why) → length (why_text w) ≤ 5
why_short NoneFits = omega arith
why_short Spent = omega arith

drop_short : (d : Dropped) → d.hart < 10 → d.step < 8192 → d.atom < 32 → length (dropped_line d) ≤ 24
unfolding dropped_line
drop_short d hart step atom = simp length-append (omega (arith, decimal_one d.hart hart, decimal_four d.step (omega (arith, step)), decimal_two d.atom (omega (arith, atom)), why_short d.why))

drop_lines_short : (harts : ℕ) → harts ≤ 4 → (from : ℕ) (ds : List Dropped) → AreDropped harts from ds → length (flat_map dropped_line ds) ≤ 24 * length ds
drop_lines_short harts few from [] are = omega arith
drop_lines_short harts few from (d ∷ ds) are = simp length-append (omega (arith, drop_short d (omega (arith, are.0, few)) are.1 are.2, drop_lines_short harts few ((d.hart * 8192 + d.step) * 32 + d.atom + 1) ds are.4))

-- 24 bytes for each of 262,144 dropped biases
dropped_short : (c : Cert) → IsWellFormed c → length (dropped_text c.dropped) ≤ 6291456
unfolding dropped_text
dropped_short c is = omega (arith, drop_lines_short (length c.start) is.harts 0 c.dropped is.dropped, is.dropped_count)

-- ---- the report

pub report_short : TemplatesKeepLimits → (c : Cert) → IsWellFormed c → length (report_text c) < 16777216
unfolding report_text
report_short keep c is =
    simp length-append (omega (arith, harts_line_short (length c.start), harts_short c is, words_short c keep is, names_short c keep is, choices_short c is, dropped_short c is))
