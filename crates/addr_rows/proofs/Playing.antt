-- The translation, played on what is known and on two given entries.
use Rattle.std.proofs.Common.{◌≡◌, ℕ, ◌+◌, ◌*◌, ◌/◌, ◌%◌, ◌^◌, ◌<◌, if◌then◌else◌, nat_lt, Bool, true, false, ◌&&◌, ◌||◌, [], ◌∷◌, Option, Some, None, refl, ap, ◌∙◌, arith}
use Rattle.std.proofs.lemmas.Bool.{ltb-true}
use Rattle.rv_mem.specs.declared.words.Seen.{Seen}
use Rattle.rv_mem.specs.declared.words.Seen.TheVariants.{Vacant}
use Rattle.rv_script.specs.declared.place.Place.{Place}
use Rattle.rv_script.specs.declared.place.Place.TheVariants.{Word}
use Rattle.rv_script.specs.Bytes.{word_address, part_of}
use Rattle.rv_script.specs.Script.{Label, Question, Question.OfMemory, place_of, Script, Script.Ask, Script.Outside, Script.Done}
use Rattle.rv_script.specs.Folds.{Known, Teller, Answer, Answer.Does, Answer.Nowhere, prefixed, on_told, Entry}
use Rattle.sv_walk.specs.declared.entry.Kind.{Kind}
use Rattle.sv_walk.specs.declared.entry.Kind.TheVariants.{Fetch, Load, Store}
use Rattle.sv_walk.specs.Entry.{access_cause, is_closed, is_invalid, is_pointer, is_reserved, is_unaligned, page_cause}
use Rattle.sv_walk.specs.Translation.{Reached, Fails, arrived, translated, from_pointer, from_root, is_in_ram, is_translated, root_address, root_label, second_address, second_end, second_label}
use Rattle.row_parts.specs.Classes.{seen_at}
use Rattle.addr_rows.specs.Combinations.{Setting}
use Rattle.rv_script.specs.Logs.{answer_told, or_given, value_or, by_answers}
use Rattle.addr_rows.specs.Walks.{Shows, seen_by, entry_answers, root_place}

abbrev pub entry : Question → ℕ → Entry
entry q v = record { question = q; value = v }

-- WORDS

whole : (v : ℕ) → v < 2 ^ 32 → v / 1 % 2 ^ 32 ≡ v
whole v small = omega (arith, small)

part_whole : (addr v : ℕ) → addr % 4 ≡ 0 → v < 2 ^ 32 → part_of addr 4 v ≡ v
part_whole addr v aligned small = ap (λ (k : ℕ). v / 256 ^ k % 256 ^ 4) aligned ∙ whole v small

is_told : {A : Type 0} (tell : Teller) (o : Option ℕ) (g : ℕ) (label : Label) (addr : ℕ) (next : ℕ → Script A) → addr % 4 ≡ 0 → value_or o g < 2 ^ 32
    → on_told (or_given o g) (place_of (OfMemory label addr 4)) (λ v. prefixed (entry (OfMemory label addr 4) v ∷ []) (answer_told tell (next (part_of addr 4 v))))
    ≡ prefixed (entry (OfMemory label addr 4) (value_or o g) ∷ []) (answer_told tell (next (value_or o g)))
is_told tell (Some w) g label addr next aligned small = ap (λ (n : ℕ). prefixed (entry (OfMemory label addr 4) w ∷ []) (answer_told tell (next n))) (part_whole addr w aligned small)
is_told tell None g label addr next aligned small = ap (λ (n : ℕ). prefixed (entry (OfMemory label addr 4) g ∷ []) (answer_told tell (next n))) (part_whole addr g aligned small)

-- a word that is asked for
pub asks_word : {A : Type 0} (tell : Teller) (o : Option ℕ) (g : ℕ) (label : Label) (addr : ℕ) (next : ℕ → Script A) → tell (OfMemory label addr 4) ≡ or_given o g → addr % 4 ≡ 0 → value_or o g < 2 ^ 32
    → answer_told tell (Ask (OfMemory label addr 4) next) ≡ prefixed (entry (OfMemory label addr 4) (value_or o g) ∷ []) (answer_told tell (next (value_or o g)))
asks_word tell o g label addr next is aligned small =
    ap (λ (p : Option ℕ). on_told p (place_of (OfMemory label addr 4)) (λ v. prefixed (entry (OfMemory label addr 4) v ∷ []) (answer_told tell (next (part_of addr 4 v))))) is
    ∙ is_told tell o g label addr next aligned small

pub if_played : {A : Type 0} (tell : Teller) (b : Bool) (s t : Script A) (r u : Answer Entry A) → answer_told tell s ≡ r → answer_told tell t ≡ u → answer_told tell (if b then s else t) ≡ (if b then r else u)
if_played tell true s t r u h k = h
if_played tell false s t r u h k = k

-- WHAT IS SEEN

address_is : (addr : ℕ) → addr / 4 * 4 ≡ word_address addr
address_is addr = omega arith

number_small : (addr : ℕ) → addr < 2 ^ 32 → addr / 4 < 2 ^ 30
number_small addr small = omega (arith, small)

pub seen_is : (at : ℕ → Seen) (ram : ℕ → Bool) (known : Known) (addr : ℕ) → Shows at ram known → seen_at at addr ≡ seen_by (is_in_ram ram addr) (known (Word (word_address addr)))
seen_is at ram known addr shows = go (nat_lt addr (2 ^ 32)) (ltb-true addr (2 ^ 32))
  where
    go : (b : Bool) → (b ≡ true → addr < 2 ^ 32) → (if b then at (addr / 4) else Vacant) ≡ seen_by (b && ram (addr / 4)) (known (Word (word_address addr)))
    go true h = shows.seen (addr / 4) (number_small addr (h refl)) ∙ ap (λ (n : ℕ). seen_by (ram (addr / 4)) (known (Word n))) (address_is addr)
    go false h = refl

pub known_small : (at : ℕ → Seen) (ram : ℕ → Bool) (known : Known) (addr given : ℕ) → Shows at ram known → given < 2 ^ 32 → value_or (known (Word (word_address addr))) given < 2 ^ 32
known_small at ram known addr given shows small = go (known (Word (word_address addr))) (λ w h. shows.words (addr / 4) w (ap (λ (n : ℕ). known (Word n)) (address_is addr) ∙ h))
  where
    go : (o : Option ℕ) → ((w : ℕ) → o ≡ Some w → w < 2 ^ 32) → value_or o given < 2 ^ 32
    go (Some w) h = h w refl
    go None h = small

-- LABELS

pub root_answer : (kind : Kind) (first second : ℕ) → entry_answers first second (root_label kind) ≡ first
root_answer Fetch first second = refl
root_answer Load first second = refl
root_answer Store first second = refl

pub second_answer : (kind : Kind) (first second : ℕ) → entry_answers first second (second_label kind) ≡ second
second_answer Fetch first second = refl
second_answer Load first second = refl
second_answer Store first second = refl

-- PLAYED

abbrev pub root_question : Setting → ℕ → Question
root_question st x = OfMemory (root_label st.kind) (root_address st.view x) 4

abbrev pub second_question : Setting → ℕ → ℕ → Question
second_question st x entry = OfMemory (second_label st.kind) (second_address x entry) 4

abbrev pub second_place : ℕ → ℕ → Place
second_place x entry = Word (word_address (second_address x entry))

abbrev pub page_fails : Setting → Answer Entry Reached
page_fails st = Does [] (Fails (page_cause st.kind))

abbrev pub access_fails : Setting → Answer Entry Reached
access_fails st = Does [] (Fails (access_cause st.kind))

abbrev pub second_done : Setting → ℕ → ℕ → ℕ → Answer Entry Reached
second_done st x w v = Does (entry (second_question st x w) v ∷ []) (second_end st.ram st.view st.kind x v)

-- behind a pointer
abbrev pub pointer_played : Setting → Known → ℕ → ℕ → ℕ → Answer Entry Reached
pointer_played st known x w second = if is_in_ram st.ram (second_address x w) then second_done st x w (value_or (known (second_place x w)) second) else access_fails st

-- at a root entry
abbrev pub rooted_played : Setting → Known → ℕ → ℕ → ℕ → Answer Entry Reached
rooted_played st known x w second =
    if is_invalid w then page_fails st
    else if is_pointer w then (if is_reserved w then Nowhere else pointer_played st known x w second)
    else if is_unaligned w || is_closed st.view st.kind w then page_fails st
    else Does [] (arrived st.ram st.kind (w / 2 ^ 20 * 2 ^ 22 + x % 2 ^ 22))

abbrev pub root_played : Setting → Known → ℕ → ℕ → ℕ → Answer Entry Reached
root_played st known x first second =
    if is_in_ram st.ram (root_address st.view x)
    then prefixed (entry (root_question st x) (value_or (known (root_place st x)) first) ∷ []) (rooted_played st known x (value_or (known (root_place st x)) first) second)
    else access_fails st

abbrev pub all_played : Setting → Known → ℕ → ℕ → ℕ → Answer Entry Reached
all_played st known x first second = if is_translated st.view then root_played st known x first second else Does [] (arrived st.ram st.kind x)

second_aligned : (x w : ℕ) → second_address x w % 4 ≡ 0
second_aligned x w = omega arith

root_aligned : (s x : ℕ) → (s % 2 ^ 22 * 2 ^ 12 + x / 2 ^ 22 * 4) % 4 ≡ 0
root_aligned s x = omega arith

pointer_plays : (at : ℕ → Seen) (st : Setting) (known : Known) (x w first second : ℕ) → Shows at st.ram known → second < 2 ^ 32
    → answer_told (by_answers known (entry_answers first second)) (from_pointer st.ram st.view st.kind x w) ≡ pointer_played st known x w second
unfolding from_pointer
pointer_plays at st known x w first second shows small =
    let tell : Teller = by_answers known (entry_answers first second) in
    let next : ℕ → Script Reached = λ v. Done (second_end st.ram st.view st.kind x v) in
    if_played tell (is_in_ram st.ram (second_address x w)) (Ask (second_question st x w) next) (Done (Fails (access_cause st.kind))) (second_done st x w (value_or (known (second_place x w)) second)) (access_fails st)
    (asks_word tell (known (second_place x w)) second (second_label st.kind) (second_address x w) next (ap (λ (n : ℕ). or_given (known (second_place x w)) n) (second_answer st.kind first second)) (second_aligned x w) (known_small at st.ram known (second_address x w) second shows small))
    refl

pub rooted_plays : (at : ℕ → Seen) (st : Setting) (known : Known) (x w first second : ℕ) → Shows at st.ram known → second < 2 ^ 32
    → answer_told (by_answers known (entry_answers first second)) (from_root st.ram st.view st.kind x w) ≡ rooted_played st known x w second
unfolding from_root
rooted_plays at st known x w first second shows small =
    let tell : Teller = by_answers known (entry_answers first second) in
    let fault : Script Reached = Done (Fails (page_cause st.kind)) in
    let end : Script Reached = Done (arrived st.ram st.kind (w / 2 ^ 20 * 2 ^ 22 + x % 2 ^ 22)) in
    let deep : Script Reached = from_pointer st.ram st.view st.kind x w in
    let inner : Script Reached = if is_reserved w then Outside else deep in
    let leaf : Script Reached = if is_unaligned w || is_closed st.view st.kind w then fault else end in
    let deep_is : Answer Entry Reached = pointer_played st known x w second in
    let inner_is : Answer Entry Reached = if is_reserved w then Nowhere else deep_is in
    let end_is : Answer Entry Reached = Does [] (arrived st.ram st.kind (w / 2 ^ 20 * 2 ^ 22 + x % 2 ^ 22)) in
    let leaf_is : Answer Entry Reached = if is_unaligned w || is_closed st.view st.kind w then page_fails st else end_is in
    if_played tell (is_invalid w) fault (if is_pointer w then inner else leaf) (page_fails st) (if is_pointer w then inner_is else leaf_is) refl
    (if_played tell (is_pointer w) inner leaf inner_is leaf_is
    (if_played tell (is_reserved w) Outside deep Nowhere deep_is refl (pointer_plays at st known x w first second shows small))
    (if_played tell (is_unaligned w || is_closed st.view st.kind w) fault end (page_fails st) end_is refl refl))

pub all_plays : (at : ℕ → Seen) (st : Setting) (known : Known) (x first second : ℕ) → Shows at st.ram known → first < 2 ^ 32 → second < 2 ^ 32
    → answer_told (by_answers known (entry_answers first second)) (translated st.ram st.view st.kind x) ≡ all_played st known x first second
unfolding translated
all_plays at st known x first second shows small1 small2 =
    let tell : Teller = by_answers known (entry_answers first second) in
    let next : ℕ → Script Reached = λ v. from_root st.ram st.view st.kind x v in
    let o : Option ℕ = known (root_place st x) in
    let fault : Script Reached = Done (Fails (access_cause st.kind)) in
    let walk : Script Reached = if is_in_ram st.ram (root_address st.view x) then Ask (root_question st x) next else fault in
    if_played tell (is_translated st.view) walk (Done (arrived st.ram st.kind x)) (root_played st known x first second) (Does [] (arrived st.ram st.kind x))
    (if_played tell (is_in_ram st.ram (root_address st.view x)) (Ask (root_question st x) next) fault (prefixed (entry (root_question st x) (value_or o first) ∷ []) (rooted_played st known x (value_or o first) second)) (access_fails st)
    (asks_word tell o first (root_label st.kind) (root_address st.view x) next (ap (λ (n : ℕ). or_given o n) (root_answer st.kind first second)) (root_aligned st.view.satp x) (known_small at st.ram known (root_address st.view x) first shows small1)
    ∙ ap (λ (r : Answer Entry Reached). prefixed (entry (root_question st x) (value_or o first) ∷ []) r) (rooted_plays at st known x (value_or o first) first second shows small2))
    refl)
    refl
