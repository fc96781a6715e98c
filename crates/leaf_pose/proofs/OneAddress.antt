-- A load and a store with the same new page table entries are led to the same physical address.
use Rattle.std.proofs.Common.{◌≡◌, ℕ, ◌+◌, ◌*◌, ◌/◌, ◌%◌, ◌^◌, Bool, true, false, ◌||◌, List, Option, Some, None, refl, sym, ap, ◌∙◌, if◌then◌else◌}
use Rattle.rv_script.specs.Logs.{answer_told}
use Rattle.rv_script.specs.Script.{Question, Question.OfMemory, Label.DataRoot, Label.DataSecond, Script, Script.Ask, Script.Done, Script.Outside, place_of, told}
use Rattle.rv_script.specs.Folds.{Answer, Answer.Does, Answer.Missing, Answer.Nowhere, Entry, Teller, entry_of, noted, on_told}
use Rattle.rv_script.proofs.Results.{Ends, ended}
use Rattle.sv_walk.specs.declared.entry.Kind.{Kind}
use Rattle.sv_walk.specs.declared.entry.Kind.TheVariants.{Load as ForLoad, Store as ForStore}
use Rattle.sv_walk.specs.declared.entry.View.{View}
use Rattle.sv_walk.specs.Entry.{access_cause, is_closed, is_invalid, is_pointer, is_reserved, is_unaligned, page_cause, page_number}
use Rattle.sv_walk.specs.Translation.{Reached, At, Fails, arrived, from_pointer, from_root, is_in_ram, is_translated, root_address, second_address, second_end, translated}

-- an end is at an address, or a trap
abbrev IsTo : ℕ → Reached → Type 0
IsTo addr (At p) = p ≡ addr
IsTo addr (Fails cause) = Unit {0}

if_to : (addr : ℕ) (b : Bool) (s u : Script Reached) → Ends (IsTo addr) s → Ends (IsTo addr) u → Ends (IsTo addr) (if b then s else u)
if_to addr true s u h k = h
if_to addr false s u h k = k

arrived_to : (ram : ℕ → Bool) (kind : Kind) (addr : ℕ) → IsTo addr (arrived ram kind addr)
arrived_to ram kind addr = go (is_in_ram ram addr)
  where
    go : (b : Bool) → IsTo addr (if b then At addr else Fails (access_cause kind))
    go true = refl
    go false = tt

second_to : (ram : ℕ → Bool) (v : View) (kind : Kind) (va entry : ℕ) → IsTo (page_number entry * 2 ^ 12 + va % 2 ^ 12) (second_end ram v kind va entry)
unfolding second_end
second_to ram v kind va entry = go (is_invalid entry || (is_pointer entry || is_closed v kind entry))
  where
    go : (b : Bool) → IsTo (page_number entry * 2 ^ 12 + va % 2 ^ 12) (if b then Fails (page_cause kind) else arrived ram kind (page_number entry * 2 ^ 12 + va % 2 ^ 12))
    go true = tt
    go false = arrived_to ram kind (page_number entry * 2 ^ 12 + va % 2 ^ 12)

-- played by the same answers, two scripts that both lead somewhere lead to one address
abbrev Agree : Teller → Script Reached → Script Reached → Type 0
Agree tell s u = (log more : List Entry) (p q : ℕ) → answer_told tell s ≡ Does log (At p) → answer_told tell u ≡ Does more (At q) → p ≡ q

to_agree : (tell : Teller) (addr : ℕ) (s u : Script Reached) → Ends (IsTo addr) s → Ends (IsTo addr) u → Agree tell s u
to_agree tell addr s u h k log more p q first second = ended (IsTo addr) s tell log (At p) h first ∙ sym (ended (IsTo addr) u tell more (At q) k second)

if_agree : (tell : Teller) (b : Bool) (s u r w : Script Reached) → Agree tell s u → Agree tell r w → Agree tell (if b then s else r) (if b then u else w)
if_agree tell true s u r w h k = h
if_agree tell false s u r w h k = k

noted_does : (e : Entry) (r : Answer Entry Reached) (log : List Entry) (p : ℕ) → noted (Some e) r ≡ Does log (At p) → (l : List Entry) × (r ≡ Does l (At p))
noted_does e (Does l a) log p h = (l, (let end : a ≡ At p = cc in ap (λ (b : Reached). Does l b) end))
noted_does e (Missing place) log p h = absurd (cc)
noted_does e Nowhere log p h = absurd (cc)

ask_agree : (tell : Teller) (q : Question) (f g : ℕ → Script Reached) → ((w : ℕ) → Agree tell (f w) (g w)) → Agree tell (Ask q f) (Ask q g)
ask_agree tell q f g each log more a b = go (tell q)
  where
    go : (o : Option ℕ) → on_told o (place_of q) (λ v. noted (entry_of q v) (answer_told tell (f (told q v)))) ≡ Does log (At a) → on_told o (place_of q) (λ v. noted (entry_of q v) (answer_told tell (g (told q v)))) ≡ Does more (At b) → a ≡ b
    go None h k = absurd (cc)
    go (Some v) h k =
        let one = noted_does (record { question = q; value = v }) (answer_told tell (f (told q v))) log a h in
        let two = noted_does (record { question = q; value = v }) (answer_told tell (g (told q v))) more b k in
        each (told q v) one.0 two.0 a b one.1 two.1

pointer_agree : (tell : Teller) (ram : ℕ → Bool) (v : View) (va entry : ℕ) → Agree tell (from_pointer ram v ForLoad va entry) (from_pointer ram v ForStore va entry)
unfolding from_pointer
pointer_agree tell ram v va entry =
    if_agree tell (is_in_ram ram (second_address va entry)) (Ask (OfMemory DataSecond (second_address va entry) 4) (λ w. Done (second_end ram v ForLoad va w))) (Ask (OfMemory DataSecond (second_address va entry) 4) (λ w. Done (second_end ram v ForStore va w)))
    (Done (Fails (access_cause ForLoad))) (Done (Fails (access_cause ForStore)))
    (ask_agree tell (OfMemory DataSecond (second_address va entry) 4) (λ w. Done (second_end ram v ForLoad va w)) (λ w. Done (second_end ram v ForStore va w))
    (λ w. to_agree tell (page_number w * 2 ^ 12 + va % 2 ^ 12) (Done (second_end ram v ForLoad va w)) (Done (second_end ram v ForStore va w)) (second_to ram v ForLoad va w) (second_to ram v ForStore va w)))
    (to_agree tell 0 (Done (Fails (access_cause ForLoad))) (Done (Fails (access_cause ForStore))) tt tt)

root_agree : (tell : Teller) (ram : ℕ → Bool) (v : View) (va entry : ℕ) → Agree tell (from_root ram v ForLoad va entry) (from_root ram v ForStore va entry)
unfolding from_root
root_agree tell ram v va entry =
    let addr : ℕ = entry / 2 ^ 20 * 2 ^ 22 + va % 2 ^ 22 in
    let fault : Kind → Script Reached = λ kind. Done (Fails (page_cause kind)) in
    let end : Kind → Script Reached = λ kind. Done (arrived ram kind (entry / 2 ^ 20 * 2 ^ 22 + va % 2 ^ 22)) in
    let inner : Kind → Script Reached = λ kind. if is_reserved entry then Outside else from_pointer ram v kind va entry in
    let leaf : Kind → Script Reached = λ kind. if is_unaligned entry || is_closed v kind entry then fault kind else end kind in
    if_agree tell (is_invalid entry) (fault ForLoad) (fault ForStore) (if is_pointer entry then inner ForLoad else leaf ForLoad) (if is_pointer entry then inner ForStore else leaf ForStore)
    (to_agree tell addr (fault ForLoad) (fault ForStore) tt tt)
    (if_agree tell (is_pointer entry) (inner ForLoad) (inner ForStore) (leaf ForLoad) (leaf ForStore)
    (if_agree tell (is_reserved entry) Outside Outside (from_pointer ram v ForLoad va entry) (from_pointer ram v ForStore va entry) (to_agree tell addr Outside Outside tt tt) (pointer_agree tell ram v va entry))
    (to_agree tell addr (leaf ForLoad) (leaf ForStore)
    (if_to addr (is_unaligned entry || is_closed v ForLoad entry) (fault ForLoad) (end ForLoad) tt (arrived_to ram ForLoad addr)) (if_to addr (is_unaligned entry || is_closed v ForStore entry) (fault ForStore) (end ForStore) tt (arrived_to ram ForStore addr))))

pub one_address : (tell : Teller) (ram : ℕ → Bool) (v : View) (va : ℕ) → Agree tell (translated ram v ForLoad va) (translated ram v ForStore va)
unfolding translated
one_address tell ram v va =
    let question = OfMemory DataRoot (root_address v va) 4 in
    let reads : Kind → Script Reached = λ kind. Ask question (λ w. from_root ram v kind va w) in
    let fails : Kind → Script Reached = λ kind. Done (Fails (access_cause kind)) in
    if_agree tell (is_translated v) (if is_in_ram ram (root_address v va) then reads ForLoad else fails ForLoad) (if is_in_ram ram (root_address v va) then reads ForStore else fails ForStore) (Done (arrived ram ForLoad va)) (Done (arrived ram ForStore va))
    (if_agree tell (is_in_ram ram (root_address v va)) (reads ForLoad) (reads ForStore) (fails ForLoad) (fails ForStore)
    (ask_agree tell question (λ w. from_root ram v ForLoad va w) (λ w. from_root ram v ForStore va w) (λ w. root_agree tell ram v va w)) (to_agree tell 0 (fails ForLoad) (fails ForStore) tt tt))
    (to_agree tell va (Done (arrived ram ForLoad va)) (Done (arrived ram ForStore va)) (arrived_to ram ForLoad va) (arrived_to ram ForStore va))
