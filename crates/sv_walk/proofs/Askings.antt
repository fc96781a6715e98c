-- What a translation asks for, and where it leads.
use Rattle.std.proofs.Common.{◌≡◌, ℕ, if◌then◌else◌, ◌+◌, ◌*◌, ◌/◌, ◌%◌, ◌^◌, ◌||◌, Bool, true, false, refl, arith}
use Rattle.rv_script.specs.Labels.{Asks}
use Rattle.rv_script.specs.Script.{Question, Question.OfMemory, Script, Script.Ask, Script.Outside, Script.Done}
use Rattle.rv_script.proofs.Results.{Ends}
use Rattle.sv_walk.specs.declared.entry.Kind.{Kind}
use Rattle.sv_walk.specs.declared.entry.View.{View}
use Rattle.sv_walk.specs.Entry.{access_cause, is_closed, is_invalid, is_pointer, is_reserved, is_unaligned, page_cause, page_number}
use Rattle.sv_walk.specs.Translation.{Reached, At, Fails, arrived, translated, from_pointer, from_root, is_in_ram, is_translated, root_address, root_label, second_address, second_end, second_label}
use Rattle.sv_walk.proofs.Offsets.{page_offset, superpage_offset}

-- ---- it asks for whole words of RAM

abbrev pub IsEntryAsked : (ℕ → Bool) → Question → Type 0
IsEntryAsked ram (OfMemory label addr size) = (size ≡ 4) × (addr % 4 ≡ 0) × (is_in_ram ram addr ≡ true)
IsEntryAsked ram _ = ⊥

if_asks : (ram : ℕ → Bool) (b : Bool) (s t : Script Reached) → Asks (IsEntryAsked ram) s → Asks (IsEntryAsked ram) t → Asks (IsEntryAsked ram) (if b then s else t)
if_asks ram true s t h k = h
if_asks ram false s t h k = k

-- an entry is asked for where it is in RAM
entry_asks : (ram : ℕ → Bool) (q : Question) (next : ℕ → Script Reached) (other : Script Reached) (c : Bool) → (c ≡ true → IsEntryAsked ram q) → ((v : ℕ) → Asks (IsEntryAsked ram) (next v)) → Asks (IsEntryAsked ram) other
    → Asks (IsEntryAsked ram) (if c then Ask q next else other)
entry_asks ram q next other true is h k = (is refl, h)
entry_asks ram q next other false is h k = k

pointer_asks : (ram : ℕ → Bool) (v : View) (kind : Kind) (va entry : ℕ) → Asks (IsEntryAsked ram) (from_pointer ram v kind va entry)
unfolding from_pointer
pointer_asks ram v kind va entry = entry_asks ram (OfMemory (second_label kind) (second_address va entry) 4) _ (Done (Fails (access_cause kind))) (is_in_ram ram (second_address va entry)) (λ there. (refl, omega arith, there)) (λ second. tt) tt

root_asks : (ram : ℕ → Bool) (v : View) (kind : Kind) (va entry : ℕ) → Asks (IsEntryAsked ram) (from_root ram v kind va entry)
unfolding from_root
root_asks ram v kind va entry =
    let fault : Script Reached = Done (Fails (page_cause kind)) in
    let inner : Script Reached = if is_reserved entry then Outside else from_pointer ram v kind va entry in
    let leaf : Script Reached = if is_unaligned entry || is_closed v kind entry then fault else Done (arrived ram kind (entry / 2 ^ 20 * 2 ^ 22 + va % 2 ^ 22)) in
    if_asks ram (is_invalid entry) fault (if is_pointer entry then inner else leaf) tt
    (if_asks ram (is_pointer entry) inner leaf (if_asks ram (is_reserved entry) Outside (from_pointer ram v kind va entry) tt (pointer_asks ram v kind va entry))
    (if_asks ram (is_unaligned entry || is_closed v kind entry) fault (Done (arrived ram kind (entry / 2 ^ 20 * 2 ^ 22 + va % 2 ^ 22))) tt tt))

pub translated_asks : (ram : ℕ → Bool) (v : View) (kind : Kind) (va : ℕ) → Asks (IsEntryAsked ram) (translated ram v kind va)
unfolding translated
translated_asks ram v kind va =
    if_asks ram (is_translated v) _ (Done (arrived ram kind va))
    (entry_asks ram (OfMemory (root_label kind) (root_address v va) 4) (λ root. from_root ram v kind va root) (Done (Fails (access_cause kind))) (is_in_ram ram (root_address v va)) (λ there. (refl, omega arith, there)) (λ root. root_asks ram v kind va root) tt)
    tt

-- ---- it leads to an address of RAM with the same offset in a word

abbrev pub Arrives : (ℕ → Bool) → ℕ → Reached → Type 0
Arrives ram va (At pa) = (pa % 4 ≡ va % 4) × (is_in_ram ram pa ≡ true)
Arrives ram va (Fails cause) = Unit {0}

if_end : (ram : ℕ → Bool) (va : ℕ) (b : Bool) (r s : Reached) → Arrives ram va r → Arrives ram va s → Arrives ram va (if b then r else s)
if_end ram va true r s h k = h
if_end ram va false r s h k = k

if_ends : (ram : ℕ → Bool) (va : ℕ) (b : Bool) (s t : Script Reached) → Ends (Arrives ram va) s → Ends (Arrives ram va) t → Ends (Arrives ram va) (if b then s else t)
if_ends ram va true s t h k = h
if_ends ram va false s t h k = k

arrived_arrives : (ram : ℕ → Bool) (kind : Kind) (va addr : ℕ) → addr % 4 ≡ va % 4 → Arrives ram va (arrived ram kind addr)
arrived_arrives ram kind va addr h = go (is_in_ram ram addr) refl where
  go : (c : Bool) → is_in_ram ram addr ≡ c → Arrives ram va (if c then At addr else Fails (access_cause kind))
  go true there = (h, there)
  go false there = tt

second_arrives : (ram : ℕ → Bool) (v : View) (kind : Kind) (va entry : ℕ) → Arrives ram va (second_end ram v kind va entry)
unfolding second_end
second_arrives ram v kind va entry =
    if_end ram va (is_invalid entry || (is_pointer entry || is_closed v kind entry)) (Fails (page_cause kind)) (arrived ram kind (page_number entry * 2 ^ 12 + va % 2 ^ 12)) tt
    (arrived_arrives ram kind va (page_number entry * 2 ^ 12 + va % 2 ^ 12) (page_offset (page_number entry) va))

pointer_arrives : (ram : ℕ → Bool) (v : View) (kind : Kind) (va entry : ℕ) → Ends (Arrives ram va) (from_pointer ram v kind va entry)
unfolding from_pointer
pointer_arrives ram v kind va entry =
    if_ends ram va (is_in_ram ram (second_address va entry)) (Ask (OfMemory (second_label kind) (second_address va entry) 4) (λ second. Done (second_end ram v kind va second))) (Done (Fails (access_cause kind)))
    (λ second. second_arrives ram v kind va second) tt

root_arrives : (ram : ℕ → Bool) (v : View) (kind : Kind) (va entry : ℕ) → Ends (Arrives ram va) (from_root ram v kind va entry)
unfolding from_root
root_arrives ram v kind va entry =
    let end : Reached = arrived ram kind (entry / 2 ^ 20 * 2 ^ 22 + va % 2 ^ 22) in
    let fault : Script Reached = Done (Fails (page_cause kind)) in
    let inner : Script Reached = if is_reserved entry then Outside else from_pointer ram v kind va entry in
    let leaf : Script Reached = if is_unaligned entry || is_closed v kind entry then fault else Done end in
    if_ends ram va (is_invalid entry) fault (if is_pointer entry then inner else leaf) tt
    (if_ends ram va (is_pointer entry) inner leaf (if_ends ram va (is_reserved entry) Outside (from_pointer ram v kind va entry) tt (pointer_arrives ram v kind va entry))
    (if_ends ram va (is_unaligned entry || is_closed v kind entry) fault (Done end) tt (arrived_arrives ram kind va (entry / 2 ^ 20 * 2 ^ 22 + va % 2 ^ 22) (superpage_offset (entry / 2 ^ 20) va))))

pub translated_arrives : (ram : ℕ → Bool) (v : View) (kind : Kind) (va : ℕ) → Ends (Arrives ram va) (translated ram v kind va)
unfolding translated
translated_arrives ram v kind va =
    let fault : Script Reached = Done (Fails (access_cause kind)) in
    let walk : Script Reached = if is_in_ram ram (root_address v va) then Ask (OfMemory (root_label kind) (root_address v va) 4) (λ root. from_root ram v kind va root) else fault in
    if_ends ram va (is_translated v) walk (Done (arrived ram kind va))
    (if_ends ram va (is_in_ram ram (root_address v va)) (Ask (OfMemory (root_label kind) (root_address v va) 4) (λ root. from_root ram v kind va root)) fault (λ root. root_arrives ram v kind va root) tt)
    (arrived_arrives ram kind va va refl)
