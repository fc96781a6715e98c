-- The page table entries that a translation reads.
use Rattle.std.proofs.Common.{◌≡◌, ℕ, if◌then◌else◌, ◌+◌, ◌*◌, ◌/◌, ◌%◌, ◌^◌, Bool, true, false, not, ◌&&◌, ◌||◌, ◌==◌, nat_eq, nat_lt, List, [], ◌∷◌, ◌++◌, Option, refl, sym, ap, ◌∙◌, inl, inr, arith}
use Rattle.std.specs.List.{list_all}
use Rattle.std.proofs.lemmas.Bool.{and_parts}
use Rattle.std.proofs.lemmas.Bool.Decides.{nat_tests}
use Rattle.rv_isa.specs.declared.instruction.Instr.{Instr}
use Rattle.rv_csr.specs.declared.cause.Cause.{Cause}
use Rattle.rv_csr.specs.Causes.{number_of}
use Rattle.rv_script.specs.declared.access.Access.{Access}
use Rattle.rv_script.specs.declared.access.Role.{Role}
use Rattle.rv_script.specs.declared.place.Place.TheVariants.{Word}
use Rattle.rv_script.specs.Bytes.{covers, part_of, word_address, any_byte}
use Rattle.rv_script.specs.Labels.{Asks, label_of}
use Rattle.rv_script.specs.Lists.{HasItem}
use Rattle.rv_script.specs.Logs.{answer_told, same_place}
use Rattle.rv_script.specs.Script.{Label, Label.FetchRoot, Label.FetchSecond, Label.Fetched, Label.FromRs1, Label.FromRs2, Label.FromCsr, Label.DataRoot, Label.DataSecond, Label.DataWord, Label.FromVector, Question, Question.OfRegister, Question.OfCsr, Question.OfMemory, Question.ToMemory, Script, Script.Ask, Script.Done, Script.Outside, access_of, place_of, role_of}
use Rattle.rv_script.specs.Folds.{Answer.Does, Entry, Teller, on_note}
use Rattle.rv_script.proofs.Results.{Ends, ended}
use Rattle.sv_walk.specs.declared.entry.Kind.{Kind}
use Rattle.sv_walk.specs.declared.entry.Kind.TheVariants.{Fetch as ForFetch, Load as ForLoad, Store as ForStore}
use Rattle.sv_walk.specs.declared.entry.View.{View}
use Rattle.sv_walk.specs.Entry.{access_cause, is_closed, is_invalid, is_pointer, is_reserved, is_unaligned, page_cause, page_number}
use Rattle.sv_walk.specs.Translation.{Reached, At, Fails, arrived, from_pointer, from_root, is_in_ram, is_translated, root_address, root_label, second_address, second_end, second_label, translated}
use Rattle.fetch_ways.proofs.Walked.{IsInside, arrived_inside, second_inside}
use Rattle.data_bytes.specs.Starts.{IsSize}
use Rattle.rv_mem.specs.Frames.{in_frames}
use Rattle.leaf_link.specs.Turns.{Turn, may_be_for, may_start, word_address_of}
use Rattle.leaf_link.specs.Candidates.{accesses_in}
use Rattle.leaf_link.proofs.Placing.{asked_by}
use Rattle.data_goals.specs.Grounds.{is_walked}
use Rattle.data_goals.proofs.Bytes.{any_same, in_word}

-- WHAT IS ASKED
abbrev pub is_entry_label : Label → Bool
is_entry_label FetchRoot = true
is_entry_label FetchSecond = true
is_entry_label DataRoot = true
is_entry_label DataSecond = true
is_entry_label _ = false

pub record IsEntryAt (label : Label) (addr size : ℕ) : Type 0 where
  pub labelled : is_entry_label label ≡ true
  pub aligned : addr % 4 ≡ 0
  pub whole : size ≡ 4

abbrev pub IsEntry : Question → Type 0
IsEntry (OfMemory label addr size) = IsEntryAt label addr size
IsEntry (OfRegister label n) = ⊥
IsEntry (OfCsr label addr) = ⊥
IsEntry (ToMemory addr size value) = ⊥

root_labelled : (kind : Kind) → is_entry_label (root_label kind) ≡ true
root_labelled ForFetch = refl
root_labelled ForLoad = refl
root_labelled ForStore = refl

second_labelled : (kind : Kind) → is_entry_label (second_label kind) ≡ true
second_labelled ForFetch = refl
second_labelled ForLoad = refl
second_labelled ForStore = refl

if_asks : (b : Bool) (s t : Script Reached) → Asks IsEntry s → Asks IsEntry t → Asks IsEntry (if b then s else t)
if_asks true s t h k = h
if_asks false s t h k = k

pointer_asks : (ram : ℕ → Bool) (v : View) (kind : Kind) (va entry : ℕ) → Asks IsEntry (from_pointer ram v kind va entry)
unfolding from_pointer
pointer_asks ram v kind va entry =
    if_asks (is_in_ram ram (second_address va entry)) (Ask (OfMemory (second_label kind) (second_address va entry) 4) (λ w. Done (second_end ram v kind va w))) (Done (Fails (access_cause kind)))
    (record { labelled = second_labelled kind; aligned = omega arith; whole = refl }, λ w. tt) tt

root_asks : (ram : ℕ → Bool) (v : View) (kind : Kind) (va entry : ℕ) → Asks IsEntry (from_root ram v kind va entry)
unfolding from_root
root_asks ram v kind va entry = search (if_asks, pointer_asks, tt)

translated_asks : (ram : ℕ → Bool) (v : View) (kind : Kind) (va : ℕ) → Asks IsEntry (translated ram v kind va)
unfolding translated
translated_asks ram v kind va =
    let reads : Script Reached = Ask (OfMemory (root_label kind) (root_address v va) 4) (λ w. from_root ram v kind va w) in
    let fails : Script Reached = Done (Fails (access_cause kind)) in
    if_asks (is_translated v) (if is_in_ram ram (root_address v va) then reads else fails) (Done (arrived ram kind va))
    (if_asks (is_in_ram ram (root_address v va)) reads fails (record { labelled = root_labelled kind; aligned = omega arith; whole = refl }, λ w. root_asks ram v kind va w) tt) tt

abbrev pub AreEntries : List Entry → Type 0
AreEntries log = (e : Entry) → HasItem log e → IsEntry e.question

pub walk_entries : (ram : ℕ → Bool) (v : View) (kind : Kind) (va : ℕ) (tell : Teller) (log : List Entry) (end : Reached) → answer_told tell (translated ram v kind va) ≡ Does log end → AreEntries log
walk_entries ram v kind va tell log end h e i = asked_by IsEntry (translated ram v kind va) tell log end (translated_asks ram v kind va) h e i

-- WHERE IT LEADS IS IN RAM
if_inside : (ram : ℕ → Bool) (b : Bool) (s t : Script Reached) → Ends (IsInside ram) s → Ends (IsInside ram) t → Ends (IsInside ram) (if b then s else t)
if_inside ram true s t h k = h
if_inside ram false s t h k = k

pointer_inside : (ram : ℕ → Bool) (v : View) (kind : Kind) (va entry : ℕ) → Ends (IsInside ram) (from_pointer ram v kind va entry)
unfolding from_pointer
pointer_inside ram v kind va entry =
    if_inside ram (is_in_ram ram (second_address va entry)) (Ask (OfMemory (second_label kind) (second_address va entry) 4) (λ w. Done (second_end ram v kind va w))) (Done (Fails (access_cause kind)))
    (λ w. second_inside ram v kind va w) tt

root_inside : (ram : ℕ → Bool) (v : View) (kind : Kind) (va entry : ℕ) → Ends (IsInside ram) (from_root ram v kind va entry)
unfolding from_root
root_inside ram v kind va entry =
    let fault : Script Reached = Done (Fails (page_cause kind)) in
    let end : Script Reached = Done (arrived ram kind (entry / 2 ^ 20 * 2 ^ 22 + va % 2 ^ 22)) in
    let inner : Script Reached = if is_reserved entry then Outside else from_pointer ram v kind va entry in
    let leaf : Script Reached = if is_unaligned entry || is_closed v kind entry then fault else end in
    if_inside ram (is_invalid entry) fault (if is_pointer entry then inner else leaf) tt
    (if_inside ram (is_pointer entry) inner leaf (if_inside ram (is_reserved entry) Outside (from_pointer ram v kind va entry) tt (pointer_inside ram v kind va entry))
    (if_inside ram (is_unaligned entry || is_closed v kind entry) fault end tt (arrived_inside ram kind (entry / 2 ^ 20 * 2 ^ 22 + va % 2 ^ 22))))

translated_inside : (ram : ℕ → Bool) (v : View) (kind : Kind) (va : ℕ) → Ends (IsInside ram) (translated ram v kind va)
unfolding translated
translated_inside ram v kind va =
    let reads : Script Reached = Ask (OfMemory (root_label kind) (root_address v va) 4) (λ w. from_root ram v kind va w) in
    let fails : Script Reached = Done (Fails (access_cause kind)) in
    if_inside ram (is_translated v) (if is_in_ram ram (root_address v va) then reads else fails) (Done (arrived ram kind va))
    (if_inside ram (is_in_ram ram (root_address v va)) reads fails (λ w. root_inside ram v kind va w) tt) (arrived_inside ram kind va)

pub leads_inside : (ram : ℕ → Bool) (v : View) (kind : Kind) (va : ℕ) (tell : Teller) (log : List Entry) (p : ℕ) → answer_told tell (translated ram v kind va) ≡ Does log (At p) → is_in_ram ram p ≡ true
leads_inside ram v kind va tell log p h = ended (IsInside ram) (translated ram v kind va) tell log (At p) (translated_inside ram v kind va) h

-- WHERE IT FAILS IT IS A FAULT, AND NOT A REFUSAL
abbrev IsFault : Reached → Type 0
IsFault (At p) = Unit {0}
IsFault (Fails cause) = (number_of cause == 2) ≡ false

page_fault : (kind : Kind) → (number_of (page_cause kind) == 2) ≡ false
page_fault ForFetch = refl
page_fault ForLoad = refl
page_fault ForStore = refl

access_fault : (kind : Kind) → (number_of (access_cause kind) == 2) ≡ false
access_fault ForFetch = refl
access_fault ForLoad = refl
access_fault ForStore = refl

if_fault : (b : Bool) (s t : Script Reached) → Ends IsFault s → Ends IsFault t → Ends IsFault (if b then s else t)
if_fault true s t h k = h
if_fault false s t h k = k

arrived_fault : (ram : ℕ → Bool) (kind : Kind) (addr : ℕ) → IsFault (arrived ram kind addr)
arrived_fault ram kind addr = go (is_in_ram ram addr)
  where
    go : (b : Bool) → IsFault (if b then At addr else Fails (access_cause kind))
    go true = tt
    go false = access_fault kind

second_fault : (ram : ℕ → Bool) (v : View) (kind : Kind) (va entry : ℕ) → IsFault (second_end ram v kind va entry)
unfolding second_end
second_fault ram v kind va entry = go (is_invalid entry || (is_pointer entry || is_closed v kind entry))
  where
    go : (b : Bool) → IsFault (if b then Fails (page_cause kind) else arrived ram kind (page_number entry * 2 ^ 12 + va % 2 ^ 12))
    go true = page_fault kind
    go false = arrived_fault ram kind (page_number entry * 2 ^ 12 + va % 2 ^ 12)

pointer_fault : (ram : ℕ → Bool) (v : View) (kind : Kind) (va entry : ℕ) → Ends IsFault (from_pointer ram v kind va entry)
unfolding from_pointer
pointer_fault ram v kind va entry =
    if_fault (is_in_ram ram (second_address va entry)) (Ask (OfMemory (second_label kind) (second_address va entry) 4) (λ w. Done (second_end ram v kind va w))) (Done (Fails (access_cause kind)))
    (λ w. second_fault ram v kind va w) (access_fault kind)

root_fault : (ram : ℕ → Bool) (v : View) (kind : Kind) (va entry : ℕ) → Ends IsFault (from_root ram v kind va entry)
unfolding from_root
root_fault ram v kind va entry =
    let fault : Script Reached = Done (Fails (page_cause kind)) in
    let end : Script Reached = Done (arrived ram kind (entry / 2 ^ 20 * 2 ^ 22 + va % 2 ^ 22)) in
    let inner : Script Reached = if is_reserved entry then Outside else from_pointer ram v kind va entry in
    let leaf : Script Reached = if is_unaligned entry || is_closed v kind entry then fault else end in
    if_fault (is_invalid entry) fault (if is_pointer entry then inner else leaf) (page_fault kind)
    (if_fault (is_pointer entry) inner leaf (if_fault (is_reserved entry) Outside (from_pointer ram v kind va entry) tt (pointer_fault ram v kind va entry))
    (if_fault (is_unaligned entry || is_closed v kind entry) fault end (page_fault kind) (arrived_fault ram kind (entry / 2 ^ 20 * 2 ^ 22 + va % 2 ^ 22))))

translated_fault : (ram : ℕ → Bool) (v : View) (kind : Kind) (va : ℕ) → Ends IsFault (translated ram v kind va)
unfolding translated
translated_fault ram v kind va =
    let reads : Script Reached = Ask (OfMemory (root_label kind) (root_address v va) 4) (λ w. from_root ram v kind va w) in
    let fails : Script Reached = Done (Fails (access_cause kind)) in
    if_fault (is_translated v) (if is_in_ram ram (root_address v va) then reads else fails) (Done (arrived ram kind va))
    (if_fault (is_in_ram ram (root_address v va)) reads fails (λ w. root_fault ram v kind va w) (access_fault kind)) (arrived_fault ram kind va)

pub fails_so : (ram : ℕ → Bool) (v : View) (kind : Kind) (va : ℕ) (tell : Teller) (log : List Entry) (cause : Cause) → answer_told tell (translated ram v kind va) ≡ Does log (Fails cause) → (number_of cause == 2) ≡ false
fails_so ram v kind va tell log cause h = ended IsFault (translated ram v kind va) tell log (Fails cause) (translated_fault ram v kind va) h

-- NEW ENTRIES ARE IN TABLES
pub new_in_tables : (t : Turn) (i : Instr) (q : Question) (v : ℕ) → IsEntry q → may_start t i (label_of q) (place_of q) v ≡ true → in_frames t.tables (word_address_of (place_of q)) ≡ true
new_in_tables t i (OfMemory label addr size) v is h = go label is.labelled (and_parts (nat_lt v (2 ^ 32)) (may_be_for t i label (Word (word_address addr)) v) h).1
  where
    go : (l : Label) → is_entry_label l ≡ true → may_be_for t i l (Word (word_address addr)) v ≡ true → in_frames t.tables (word_address addr) ≡ true
    go FetchRoot k m = (and_parts _ _ m).0
    go FetchSecond k m = (and_parts _ _ m).0
    go DataRoot k m = (and_parts _ _ m).0
    go DataSecond k m = (and_parts _ _ m).0
    go Fetched k m = absurd (cc)
    go FromRs1 k m = absurd (cc)
    go FromRs2 k m = absurd (cc)
    go FromCsr k m = absurd (cc)
    go DataWord k m = absurd (cc)
    go FromVector k m = absurd (cc)
new_in_tables t i (OfRegister label n) v is h = absurd is
new_in_tables t i (OfCsr label addr) v is h = absurd is
new_in_tables t i (ToMemory addr size value) v is h = absurd is

-- BYTES OF ENTRIES
entry_covers : (role : Role) (addr value b : ℕ) → addr % 4 ≡ 0 → covers (record { role = role; addr = addr; size = 4; value = value }) b ≡ nat_eq (b / 4) (addr / 4)
entry_covers role addr value b aligned = grind (arith, nat_tests)

any_const : (size p : ℕ) (c : Bool) → IsSize size → any_byte size p (λ b. c) ≡ c
any_const size p c (inl h) = ap (λ (n : ℕ). any_byte n p (λ b. c)) h ∙ or_false c
  where
    or_false : (b : Bool) → (b || false) ≡ b
    or_false true = refl
    or_false false = refl
any_const size p c (inr (inl h)) = ap (λ (n : ℕ). any_byte n p (λ b. c)) h ∙ two c
  where
    two : (b : Bool) → (b || (b || false)) ≡ b
    two true = refl
    two false = refl
any_const size p c (inr (inr h)) = ap (λ (n : ℕ). any_byte n p (λ b. c)) h ∙ four c
  where
    four : (b : Bool) → (b || (b || (b || (b || false)))) ≡ b
    four true = refl
    four false = refl

-- some byte of an access is in a word just where its first one is
pub any_in_word : (size p word : ℕ) → IsSize size → p % size ≡ 0 → any_byte size p (λ b. nat_eq (b / 4) word) ≡ nat_eq (p / 4) word
any_in_word size p word is m = any_same size p _ (λ b. nat_eq (p / 4) word) (λ b low high. ap (λ (n : ℕ). nat_eq n word) (in_word size p b is m low high)) ∙ any_const size p (nat_eq (p / 4) word) is

same_words : (addr p : ℕ) → nat_eq (p / 4) (addr / 4) ≡ nat_eq (word_address addr) (word_address p)
same_words addr p = grind (arith, nat_tests)

not_or : (a b : Bool) → (not a && not b) ≡ not (a || b)
not_or true b = refl
not_or false b = refl

abbrev all_of : ℕ → ℕ → List Entry → Option Access → Bool
all_of size p log o = list_all (λ y. not (any_byte size p (covers y))) (on_note o (accesses_in log))

-- an access is apart from entries that are none of its word's
pub apart_entries : (log : List Entry) → AreEntries log → (size p : ℕ) → IsSize size → p % size ≡ 0 → list_all (λ y. not (any_byte size p (covers y))) (accesses_in log) ≡ not (is_walked log p)
apart_entries [] are size p is m = refl
apart_entries (e ∷ log) are size p is m = go (apart_entries log (λ d i. are d (inr i)) size p is m) e.question refl (are e (inl refl))
  where
    go : list_all (λ y. not (any_byte size p (covers y))) (accesses_in log) ≡ not (is_walked log p) → (q : Question) → e.question ≡ q → IsEntry q → all_of size p log (access_of e.question e.value) ≡ not (same_place (place_of e.question) (Word (word_address p)) || is_walked log p)
    go rest (OfMemory label addr size_of) same at =
        let q : Question = OfMemory label addr 4 in
        let same4 : e.question ≡ q = same ∙ ap (λ (n : ℕ). OfMemory label addr n) at.whole in
        let y : Access = record { role = role_of label; addr = addr; size = 4; value = part_of addr 4 e.value } in
        ap (λ (r : Question). all_of size p log (access_of r e.value)) same4
        ∙ ap (λ (b : Bool). not b && list_all (λ y. not (any_byte size p (covers y))) (accesses_in log))
        (any_same size p (covers y) (λ b. nat_eq (b / 4) (addr / 4)) (λ b low high. entry_covers (role_of label) addr (part_of addr 4 e.value) b at.aligned) ∙ any_in_word size p (addr / 4) is m ∙ same_words addr p)
        ∙ ap (λ (b : Bool). not (nat_eq (word_address addr) (word_address p)) && b) rest
        ∙ not_or (nat_eq (word_address addr) (word_address p)) (is_walked log p)
        ∙ ap (λ (r : Question). not (same_place (place_of r) (Word (word_address p)) || is_walked log p)) (sym same4)
    go rest (OfRegister label n) same at = absurd at
    go rest (OfCsr label addr) same at = absurd at
    go rest (ToMemory addr size_of value) same at = absurd at

pub all_then : {A : Type 0} (test : A → Bool) (xs ys : List A) → list_all test (xs ++ ys) ≡ (list_all test xs && list_all test ys)
all_then test [] ys = refl
all_then test (x ∷ xs) ys = ap (λ (b : Bool). test x && b) (all_then test xs ys) ∙ assoc (test x) (list_all test xs) (list_all test ys)
  where
    assoc : (a b c : Bool) → (a && (b && c)) ≡ ((a && b) && c)
    assoc true b c = refl
    assoc false b c = refl
