-- A translation keeps the offset in a word.
use Rattle.std.proofs.Common.{◌≡◌, ℕ, if◌then◌else◌, ◌+◌, ◌*◌, ◌/◌, ◌%◌, ◌^◌, ◌||◌, Bool, true, false, List, refl, arith}
use Rattle.rv_script.specs.Script.{Question.OfMemory, Script, Script.Ask, Script.Outside, Script.Done}
use Rattle.rv_script.specs.Folds.{Teller, Answer.Does, Entry}
use Rattle.sv_walk.specs.declared.entry.Kind.{Kind}
use Rattle.sv_walk.specs.declared.entry.View.{View}
use Rattle.sv_walk.specs.Entry.{access_cause, is_closed, is_invalid, is_pointer, is_reserved, is_unaligned, page_cause, page_number}
use Rattle.sv_walk.specs.Translation.{Reached, At, Fails, arrived, translated, from_pointer, from_root, is_in_ram, is_translated, root_address, root_label, second_address, second_end, second_label}
use Rattle.rv_script.specs.Logs.{answer_told}
use Rattle.rv_script.proofs.Results.{Ends, ended}

abbrev pub Keeps : ℕ → Reached → Type 0
Keeps va (At pa) = pa % 4 ≡ va % 4
Keeps va (Fails cause) = Unit {0}

if_end : (va : ℕ) (b : Bool) (r s : Reached) → Keeps va r → Keeps va s → Keeps va (if b then r else s)
if_end va true r s h k = h
if_end va false r s h k = k

if_keeps : (va : ℕ) (b : Bool) (s t : Script Reached) → Ends (Keeps va) s → Ends (Keeps va) t → Ends (Keeps va) (if b then s else t)
if_keeps va true s t h k = h
if_keeps va false s t h k = k

pub page_offset : (n va : ℕ) → (n * 2 ^ 12 + va % 2 ^ 12) % 4 ≡ va % 4
page_offset n va = omega arith

pub superpage_offset : (n va : ℕ) → (n * 2 ^ 22 + va % 2 ^ 22) % 4 ≡ va % 4
superpage_offset n va = omega arith

arrived_keeps : (ram : ℕ → Bool) (kind : Kind) (va addr : ℕ) → addr % 4 ≡ va % 4 → Keeps va (arrived ram kind addr)
arrived_keeps ram kind va addr h = if_end va (is_in_ram ram addr) (At addr) (Fails (access_cause kind)) h tt

second_keeps : (ram : ℕ → Bool) (v : View) (kind : Kind) (va entry : ℕ) → Keeps va (second_end ram v kind va entry)
unfolding second_end
second_keeps ram v kind va entry =
    if_end va (is_invalid entry || (is_pointer entry || is_closed v kind entry)) (Fails (page_cause kind)) (arrived ram kind (page_number entry * 2 ^ 12 + va % 2 ^ 12)) tt
    (arrived_keeps ram kind va (page_number entry * 2 ^ 12 + va % 2 ^ 12) (page_offset (page_number entry) va))

pointer_keeps : (ram : ℕ → Bool) (v : View) (kind : Kind) (va entry : ℕ) → Ends (Keeps va) (from_pointer ram v kind va entry)
unfolding from_pointer
pointer_keeps ram v kind va entry =
    if_keeps va (is_in_ram ram (second_address va entry)) (Ask (OfMemory (second_label kind) (second_address va entry) 4) (λ second. Done (second_end ram v kind va second))) (Done (Fails (access_cause kind)))
    (λ second. second_keeps ram v kind va second) tt

root_keeps : (ram : ℕ → Bool) (v : View) (kind : Kind) (va entry : ℕ) → Ends (Keeps va) (from_root ram v kind va entry)
unfolding from_root
root_keeps ram v kind va entry =
    let end : Reached = arrived ram kind (entry / 2 ^ 20 * 2 ^ 22 + va % 2 ^ 22) in
    let fault : Script Reached = Done (Fails (page_cause kind)) in
    let inner : Script Reached = if is_reserved entry then Outside else from_pointer ram v kind va entry in
    let leaf : Script Reached = if is_unaligned entry || is_closed v kind entry then fault else Done end in
    if_keeps va (is_invalid entry) fault (if is_pointer entry then inner else leaf) tt
    (if_keeps va (is_pointer entry) inner leaf (if_keeps va (is_reserved entry) Outside (from_pointer ram v kind va entry) tt (pointer_keeps ram v kind va entry))
    (if_keeps va (is_unaligned entry || is_closed v kind entry) fault (Done end) tt (arrived_keeps ram kind va (entry / 2 ^ 20 * 2 ^ 22 + va % 2 ^ 22) (superpage_offset (entry / 2 ^ 20) va))))

translated_keeps : (ram : ℕ → Bool) (v : View) (kind : Kind) (va : ℕ) → Ends (Keeps va) (translated ram v kind va)
unfolding translated
translated_keeps ram v kind va =
    let fault : Script Reached = Done (Fails (access_cause kind)) in
    let walk : Script Reached = if is_in_ram ram (root_address v va) then Ask (OfMemory (root_label kind) (root_address v va) 4) (λ root. from_root ram v kind va root) else fault in
    if_keeps va (is_translated v) walk (Done (arrived ram kind va))
    (if_keeps va (is_in_ram ram (root_address v va)) (Ask (OfMemory (root_label kind) (root_address v va) 4) (λ root. from_root ram v kind va root)) fault (λ root. root_keeps ram v kind va root) tt)
    (arrived_keeps ram kind va va refl)

pub offset_kept : (ram : ℕ → Bool) (v : View) (kind : Kind) (va : ℕ) (t : Teller) (log : List Entry) (pa : ℕ) → answer_told t (translated ram v kind va) ≡ Does log (At pa) → pa % 4 ≡ va % 4
offset_kept ram v kind va t log pa h = ended (Keeps va) (translated ram v kind va) t log (At pa) (translated_keeps ram v kind va) h
