-- A step rests on what it asks alone.
use Rattle.std.proofs.Common.{◌≡◌, ℕ, List, [], ◌∷◌, Option, Some, None, refl, sym, ap, ◌∙◌, subst, inl, inr, map}
use Rattle.rv_script.specs.declared.access.Access.{Access}
use Rattle.rv_script.specs.declared.place.Place.TheVariants.{Word}
use Rattle.rv_script.specs.Lists.{HasItem}
use Rattle.rv_script.specs.Bytes.{word_address}
use Rattle.rv_script.specs.Script.{Question, Question.OfRegister, Question.OfCsr, Question.OfMemory, Question.ToMemory, place_of, access_of}
use Rattle.rv_script.specs.Folds.{Entry, Sight, asked_of, result_of, on_note, notes_of, accesses_of, needs_of}
use Rattle.rv_script.specs.Laws.{IsSeenAlike}
use Rattle.rv_script.proofs.Local.{local}
use Rattle.rv_hart.specs.declared.record.Change.{Change}
use Rattle.rv_hart.specs.Fixed.{Fixed}
use Rattle.rv_hart.specs.Machine.{script}
use Rattle.rv_hart.specs.Changes.{fixed_after, writes_of}
use Rattle.rv_hart.specs.Whole.{record_of, Step, planned, sighted_step_of}

pub planned_accesses : (f : Fixed) (xs : List Access) (o : Option Change) (s : Step) → planned f xs o ≡ Some s → s.did.accesses ≡ xs
planned_accesses f xs None s e = absurd cc
planned_accesses f xs (Some c) s e = let is : record { did = record_of f xs c; fixed = fixed_after f c; writes = writes_of f c } ≡ s = cc in ap (λ (t : Step). t.did.accesses) (sym is)

-- the same step where the same is seen
pub step_local : (f : Fixed) (see other : Sight) (s : Step) → sighted_step_of f see ≡ Some s
    → ((e : Entry) → HasItem (asked_of (script f) see) e → IsSeenAlike e.question e.value (other e.question))
    → sighted_step_of f other ≡ Some s
step_local f see other s is alike =
    let same = local (script f) see other alike in
    ap (λ (xs : List Access). planned f xs (result_of (script f) other)) same.accesses ∙ ap (λ (o : Option Change). planned f (accesses_of (script f) see) o) same.result ∙ is

note_here : {L : Type 0} (o : Option L) (xs : List L) (x : L) → o ≡ Some x → HasItem (on_note o xs) x
note_here None xs x e = absurd cc
note_here (Some y) xs x e = inl cc

note_later : {L : Type 0} (o : Option L) (xs : List L) (x : L) → HasItem xs x → HasItem (on_note o xs) x
note_later None xs x h = h
note_later (Some y) xs x h = inr h

-- the access of an entry stands among the accesses
pub entry_access : (log : List Entry) (e : Entry) (x : Access) → HasItem log e → access_of e.question e.value ≡ Some x → HasItem (notes_of access_of log) x
entry_access [] e x h is = absurd h
entry_access (f ∷ log) e x h is = elim h [
  | inl here ↦ note_here (access_of f.question f.value) (notes_of access_of log) x (ap (λ (g : Entry). access_of g.question g.value) here ∙ is)
  | inr there ↦ note_later (access_of f.question f.value) (notes_of access_of log) x (entry_access log e x there is)
]

-- an access is that of an entry
pub access_entry : (log : List Entry) (x : Access) → HasItem (notes_of access_of log) x → (e : Entry) × HasItem log e × (access_of e.question e.value ≡ Some x)
access_entry [] x h = absurd h
access_entry (e ∷ log) x h = go (access_of e.question e.value) refl (access_entry log) h
  where
    go : (o : Option Access) → access_of e.question e.value ≡ o → ((y : Access) → HasItem (notes_of access_of log) y → (f : Entry) × HasItem log f × (access_of f.question f.value ≡ Some y))
        → HasItem (on_note o (notes_of access_of log)) x → (f : Entry) × HasItem (e ∷ log) f × (access_of f.question f.value ≡ Some x)
    go None is later h = let r = later x h in (r.0, inr r.1, r.2)
    go (Some y) is later h = elim h [
      | inl here ↦ (e, inl refl, is ∙ ap (λ (z : Access). Some z) here)
      | inr there ↦ let r = later x there in (r.0, inr r.1, r.2)
    ]

-- the place of an entry stands among the needs
pub entry_place : (log : List Entry) (e : Entry) → HasItem log e → HasItem (map (λ (f : Entry). place_of f.question) log) (place_of e.question)
entry_place [] e h = absurd h
entry_place (f ∷ log) e h = elim h [
  | inl here ↦ inl (ap (λ (g : Entry). place_of g.question) here)
  | inr there ↦ inr (entry_place log e there)
]

access_place : (q : Question) (v : ℕ) (x : Access) → access_of q v ≡ Some x → place_of q ≡ Word (word_address x.addr)
access_place (OfRegister label n) v x e = absurd cc
access_place (OfCsr label addr) v x e = absurd cc
access_place (OfMemory label addr size) v x e = let same : access_of (OfMemory label addr size) v ≡ Some x = e in ap (λ (n : ℕ). Word (word_address n)) (addr_of _ x same)
  where
    addr_of : (y z : Access) → Some y ≡ Some z → y.addr ≡ z.addr
    addr_of y z e = let s : y ≡ z = cc in ap (λ (a : Access). a.addr) s
access_place (ToMemory addr size value) v x e = let same : access_of (ToMemory addr size value) v ≡ Some x = e in ap (λ (n : ℕ). Word (word_address n)) (addr_of _ x same)
  where
    addr_of : (y z : Access) → Some y ≡ Some z → y.addr ≡ z.addr
    addr_of y z e = let s : y ≡ z = cc in ap (λ (a : Access). a.addr) s

-- the word of each access of a step is among the places that it needs
pub step_word : (f : Fixed) (see : Sight) (s : Step) → sighted_step_of f see ≡ Some s → (x : Access) → HasItem s.did.accesses x → HasItem (needs_of (script f) see) (Word (word_address x.addr))
step_word f see s is x h =
    let at : HasItem (accesses_of (script f) see) x = subst (λ (xs : List Access). HasItem xs x) (planned_accesses f (accesses_of (script f) see) (result_of (script f) see) s is) h in
    let r = access_entry (asked_of (script f) see) x at in
    subst (HasItem (needs_of (script f) see)) (access_place r.0.question r.0.value x r.2) (entry_place (asked_of (script f) see) r.0 r.1)
