-- Undoing a step gives back what was.
use Rattle.std.proofs.Common.{◌≡◌, ℕ, ◌-◌, ◌/◌, ◌⊎◌, true, false, eqb, List, [], ◌∷◌, ◌++◌, length, length-append, length-set, map, set, get_or, refl, sym, ap, ◌∙◌, subst, inl, inr, arith}
use Rattle.std.specs.Prelude.{All}
use Rattle.std.proofs.lemmas.Bool.{cases_Bool, eqb-true, eq-eqb, ne_eqb}
use Rattle.std.proofs.lemmas.List.{get_or-set_same}
use Rattle.std.proofs.lemmas.List.Elements.{All-head, All-tail}
use Rattle.rv_mem.specs.declared.words.Seen.{Seen}
use Rattle.rv_mem.specs.declared.words.Seen.TheVariants.{Known}
use Rattle.rv_script.specs.declared.access.Access.{Access}
use Rattle.rv_script.specs.declared.access.Role.{Role}
use Rattle.rv_script.specs.Memory.{word_after}
use Rattle.rv_hart.specs.declared.hart.Hart.{Hart}
use Rattle.rv_hart.specs.declared.record.Change.{Change}
use Rattle.rv_hart.specs.declared.record.Record.{Record}
use Rattle.rv_hart.specs.Effects.{seen_word_after, seen_accessed, seen_after}
use Rattle.part_machine.specs.declared.notes.Note.{Note}
use Rattle.part_machine.specs.declared.entry.Entry.TheVariants.{Step}
use Rattle.part_machine.specs.ButLast.{but_last}
use Rattle.part_machine.specs.Notes.{with_seen, put_back, taken_out, IsKnownAt, IsWordOf, AreNotes}
use Rattle.part_machine.specs.Whole.{bare, Whole, no_hart, hart_of, records_of, record_in, bare_after, stepped, HasHart}
use Rattle.part_machine.specs.Undo.{undone, IsWithin}
use Rattle.part_machine.proofs.ButLast.{but_last_append}
use Rattle.part_machine.proofs.Undoing.{same_whole}
use Rattle.part_machine.proofs.Changes.{set_back}

-- ---- memory

-- word i is that of one of the addresses
abbrev pub HasWord : List ℕ → ℕ → Type 0
HasWord [] i = ⊥
HasWord (a ∷ addrs) i = (i ≡ a / 4) ⊎ HasWord addrs i

-- what no access touches stays
after_other : (xs : List Access) (at : ℕ → Seen) (i : ℕ) → (HasWord (map (λ x. x.addr) xs) i → ⊥) → seen_after xs at i ≡ at i
after_other [] at i never = refl
after_other (x ∷ xs) at i never = after_other xs (seen_accessed x at) i (λ h. never (inr h)) ∙ rw (ne_eqb i (x.addr / 4) (λ e. never (inl e))) refl

-- a word that is put back, or that stood all the time, is as it was
put_back_is : (ns : List Note) (at f : ℕ → Seen) (i : ℕ) → All (IsWordOf at) ns → ((HasWord (map (λ x. x.addr) ns) i → ⊥) → f i ≡ at i) → put_back ns f i ≡ at i
put_back_is [] at f i words stood = stood (λ h. h)
put_back_is (n ∷ ns) at f i words stood =
    put_back_is ns at (with_seen (n.addr / 4) (Known n.word) f) i (All-tail (IsWordOf at) n ns words) (λ never. elim (cases_Bool (eqb i (n.addr / 4))) [
      | inl t ↦ rw t (sym (ap at (eqb-true i (n.addr / 4) t) ∙ All-head (IsWordOf at) n ns words))
      | inr e ↦ rw e (stood (λ h. elim h [ inl here ↦ absurd (differ i (n.addr / 4) here e) | inr later ↦ never later ]))
    ])
  where
    differ : (a b : ℕ) → a ≡ b → eqb a b ≡ false → ⊥
    differ a b same unlike = let e : true ≡ false = sym (eq-eqb a b same) ∙ unlike in absurd (cc e)

pub memory_back : (ns : List Note) (xs : List Access) (at : ℕ → Seen) → map (λ (x : Note). x.addr) ns ≡ map (λ (x : Access). x.addr) xs → All (IsWordOf at) ns
    → (i : ℕ) → put_back ns (seen_after xs at) i ≡ at i
memory_back ns xs at same words i =
    put_back_is ns at (seen_after xs at) i words (λ never. after_other xs at i (λ h. never (subst (λ (addrs : List ℕ). HasWord addrs i) (sym same) h)))

-- what is known stays known
known_after : (xs : List Access) (at : ℕ → Seen) (n v : ℕ) → at n ≡ Known v → (w : ℕ) × (seen_after xs at n ≡ Known w)
known_after [] at n v e = (v, e)
known_after (x ∷ xs) at n v e = elim (cases_Bool (eqb n (x.addr / 4))) [
  | inl t ↦ known_after xs (seen_accessed x at) n (word_after x.role x n v) (rw t (ap (seen_word_after x n) e))
  | inr f ↦ known_after xs (seen_accessed x at) n v (rw f e)
]

-- ---- the log

pub last_set : {A : Type 0} (log l log' : List A) (x e : A) → log' ≡ set l (length l - 1) e → l ≡ log ++ x ∷ [] → log' ≡ log ++ e ∷ []
last_set {A} log l log' x e is pushed =
    let size : length l - 1 ≡ length log = ap (λ (q : List A). length q - 1) pushed ∙ omega (arith, length-append log (x ∷ [])) in
    is ∙ ap (λ (n : ℕ). set l n e) size ∙ ap (λ (q : List A). set q (length log) e) pushed ∙ set_end log x e
  where
    set_end : (ys : List A) (y z : A) → set (ys ++ y ∷ []) (length ys) z ≡ ys ++ z ∷ []
    set_end [] y z = refl
    set_end (w ∷ ys) y z = ap (λ (q : List A). w ∷ q) (set_end ys y z)

-- ---- the step

pub step_back : (k : ℕ) (xs : List Access) (c : Change) (w w' : Whole) (now : Hart) (ns : List Note) → w' ≡ stepped k xs c w → AreNotes k xs w.memory w.feet w'.feet ns
    → bare now ≡ hart_of k w → HasHart k w → undone (Step k now ns) w' ≡ w
step_back k xs c w w' now ns is notes now_is has =
    let r : Record = record_in (hart_of k w) w.memory xs c in
    let rs : List Record = records_of k w in
    let s : Whole = stepped k xs c w in
    let feet : (b h : ℕ) (q : Role) → taken_out k ns s.feet b h q ≡ w.feet b h q = λ b h q. ap (λ (v : Whole). taken_out k ns v.feet b h q) (sym is) ∙ notes.undone b h q in
    let got : get_or (set w.traces k (rs ++ r ∷ [])) k [] ≡ rs ++ r ∷ [] = get_or-set_same w.traces k (rs ++ r ∷ []) [] has.trace in
    let fore : but_last (get_or (set w.traces k (rs ++ r ∷ [])) k []) ≡ rs = ap (λ (q : List Record). but_last q) got ∙ but_last_append rs r in
    ap (λ (v : Whole). undone (Step k now ns) v) is
    ∙ same_whole (undone (Step k now ns) s) w (record {
      ram = refl;
      first = refl;
      words = refl;
      traces = set_back w.traces k (rs ++ r ∷ []) (but_last (get_or (set w.traces k (rs ++ r ∷ [])) k [])) [] fore;
      harts = set_back w.harts k (bare_after c (hart_of k w)) (bare now) no_hart now_is;
      memory = memory_back ns xs w.memory notes.places notes.words;
      feet = feet;
      names = refl;
      choices = refl;
      dropped = refl;
    })

pub step_within : (k : ℕ) (xs : List Access) (c : Change) (w w' : Whole) (now : Hart) (ns : List Note) → w' ≡ stepped k xs c w → AreNotes k xs w.memory w.feet w'.feet ns
    → HasHart k w → IsWithin (Step k now ns) w'
step_within k xs c w w' now ns is notes has =
    let traces : length w'.traces ≡ length w.traces = ap (λ (v : Whole). length v.traces) is ∙ length-set w.traces k (records_of k w ++ record_in (hart_of k w) w.memory xs c ∷ []) in
    let harts : length w'.harts ≡ length w.harts = ap (λ (v : Whole). length v.harts) is ∙ length-set w.harts k (bare_after c (hart_of k w)) in
    let known : All (λ (x : Note). IsKnownAt (seen_after xs w.memory) x.addr) ns = λ i d l. let a : Note = get_or ns i d in known_after xs w.memory (a.addr / 4) a.word (notes.words i d l) in (
      omega (arith, traces, has.trace),
      omega (arith, harts, has.now),
      subst (λ (v : Whole). All (λ (x : Note). IsKnownAt v.memory x.addr) ns) (sym is) known,
      notes.within,
    )
