-- A translation asks for words alone, and its faults are no illegal instruction.
use Rattle.std.proofs.Common.{◌≡◌, ℕ, if◌then◌else◌, ◌+◌, ◌*◌, ◌/◌, ◌%◌, ◌^◌, ◌||◌, ◌==◌, Bool, true, false, List, [], refl, subst, inl, inr}
use Rattle.rv_csr.specs.Causes.{number_of}
use Rattle.rv_script.specs.Lists.{HasItem}
use Rattle.rv_script.specs.Script.{Question.OfMemory, place_of, told as told_of, Script, Script.Ask, Script.Outside, Script.Done}
use Rattle.rv_script.specs.Folds.{Teller, Answer.Does, Entry}
use Rattle.sv_walk.specs.declared.entry.Kind.{Kind}
use Rattle.sv_walk.specs.declared.entry.Kind.TheVariants.{Fetch as ForFetch, Load as ForLoad, Store as ForStore}
use Rattle.sv_walk.specs.declared.entry.View.{View}
use Rattle.sv_walk.specs.Entry.{access_cause, is_closed, is_invalid, is_pointer, is_reserved, is_unaligned, page_cause, page_number}
use Rattle.sv_walk.specs.Translation.{Reached, At, Fails, arrived, translated, from_pointer, from_root, is_in_ram, is_translated, root_address, root_label, second_address, second_end, second_label}
use Rattle.rv_script.specs.Logs.{is_word, entry_place, answer_told}
use Rattle.rv_script.proofs.Plays.{first_asked}

-- each question is for a word, and each end is no illegal instruction
abbrev pub IsNoRefusal : Reached → Type 0
IsNoRefusal (At pa) = Unit {0}
IsNoRefusal (Fails cause) = (number_of cause == 2) ≡ false

abbrev pub Plain : Script Reached → Type 0
Plain (Ask q next) = (is_word (place_of q) ≡ true) × ((v : ℕ) → Plain (next v))
Plain Outside = Unit {0}
Plain (Done r) = IsNoRefusal r

pub plain_words : (s : Script Reached) (t : Teller) (log : List Entry) (r : Reached) → Plain s → answer_told t s ≡ Does log r → (e : Entry) → HasItem log e → is_word (entry_place e) ≡ true
plain_words (Ask q next) t log r up h e i =
    let d = first_asked q next t log r h in
    elim (subst (λ (z : List Entry). HasItem z e) d.4 i) [
      | inl here ↦ subst (λ (z : Entry). is_word (entry_place z) ≡ true) here up.0
      | inr there ↦ plain_words (next (told_of q d.0)) t d.1 r (up.1 (told_of q d.0)) d.3 e there
    ]
plain_words Outside t log r up h e i = absurd (cc)
plain_words (Done b) t log r up h e i = let g : log ≡ [] = cc in absurd (subst (λ (z : List Entry). HasItem z e) g i)

pub plain_end : (s : Script Reached) (t : Teller) (log : List Entry) (r : Reached) → Plain s → answer_told t s ≡ Does log r → IsNoRefusal r
plain_end (Ask q next) t log r up h = let d = first_asked q next t log r h in plain_end (next (told_of q d.0)) t d.1 r (up.1 (told_of q d.0)) d.3
plain_end Outside t log r up h = absurd (cc)
plain_end (Done b) t log r up h = let z : b ≡ r = cc in subst IsNoRefusal z up

page_no : (kind : Kind) → (number_of (page_cause kind) == 2) ≡ false
page_no ForFetch = refl
page_no ForLoad = refl
page_no ForStore = refl

access_no : (kind : Kind) → (number_of (access_cause kind) == 2) ≡ false
access_no ForFetch = refl
access_no ForLoad = refl
access_no ForStore = refl

if_end : (b : Bool) (r s : Reached) → IsNoRefusal r → IsNoRefusal s → IsNoRefusal (if b then r else s)
if_end true r s h k = h
if_end false r s h k = k

if_plain : (b : Bool) (s t : Script Reached) → Plain s → Plain t → Plain (if b then s else t)
if_plain true s t h k = h
if_plain false s t h k = k

arrived_no : (ram : ℕ → Bool) (kind : Kind) (addr : ℕ) → IsNoRefusal (arrived ram kind addr)
arrived_no ram kind addr = if_end (is_in_ram ram addr) (At addr) (Fails (access_cause kind)) tt (access_no kind)

second_no : (ram : ℕ → Bool) (v : View) (kind : Kind) (va entry : ℕ) → IsNoRefusal (second_end ram v kind va entry)
unfolding second_end
second_no ram v kind va entry =
    if_end (is_invalid entry || (is_pointer entry || is_closed v kind entry)) (Fails (page_cause kind)) (arrived ram kind (page_number entry * 2 ^ 12 + va % 2 ^ 12)) (page_no kind) (arrived_no ram kind (page_number entry * 2 ^ 12 + va % 2 ^ 12))

pointer_plain : (ram : ℕ → Bool) (v : View) (kind : Kind) (va entry : ℕ) → Plain (from_pointer ram v kind va entry)
unfolding from_pointer
pointer_plain ram v kind va entry =
    if_plain (is_in_ram ram (second_address va entry)) (Ask (OfMemory (second_label kind) (second_address va entry) 4) (λ second. Done (second_end ram v kind va second))) (Done (Fails (access_cause kind)))
    (refl, λ second. second_no ram v kind va second) (access_no kind)

root_plain : (ram : ℕ → Bool) (v : View) (kind : Kind) (va entry : ℕ) → Plain (from_root ram v kind va entry)
unfolding from_root
root_plain ram v kind va entry =
    let end : Reached = arrived ram kind (entry / 2 ^ 20 * 2 ^ 22 + va % 2 ^ 22) in
    let fault : Script Reached = Done (Fails (page_cause kind)) in
    let inner : Script Reached = if is_reserved entry then Outside else from_pointer ram v kind va entry in
    let leaf : Script Reached = if is_unaligned entry || is_closed v kind entry then fault else Done end in
    if_plain (is_invalid entry) fault (if is_pointer entry then inner else leaf) (page_no kind)
    (if_plain (is_pointer entry) inner leaf (if_plain (is_reserved entry) Outside (from_pointer ram v kind va entry) tt (pointer_plain ram v kind va entry))
    (if_plain (is_unaligned entry || is_closed v kind entry) fault (Done end) (page_no kind) (arrived_no ram kind (entry / 2 ^ 20 * 2 ^ 22 + va % 2 ^ 22))))

pub translated_plain : (ram : ℕ → Bool) (v : View) (kind : Kind) (va : ℕ) → Plain (translated ram v kind va)
unfolding translated
translated_plain ram v kind va =
    let fault : Script Reached = Done (Fails (access_cause kind)) in
    let walk : Script Reached = if is_in_ram ram (root_address v va) then Ask (OfMemory (root_label kind) (root_address v va) 4) (λ root. from_root ram v kind va root) else fault in
    if_plain (is_translated v) walk (Done (arrived ram kind va))
    (if_plain (is_in_ram ram (root_address v va)) (Ask (OfMemory (root_label kind) (root_address v va) 4) (λ root. from_root ram v kind va root)) fault
    (refl, λ root. root_plain ram v kind va root) (access_no kind))
    (arrived_no ram kind va)
