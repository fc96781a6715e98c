-- A step of the code's hart, by values.
use Rattle.std.proofs.Common.{◌≡◌, ℕ, zero, suc, ◌/◌, ◌<◌, List, [], ◌∷◌, length, get_or, Option, Some, None, refl, sym, ap, ◌∙◌, subst, inl, inr, arith}
use Rattle.std.specs.Prelude.{All, IsSome}
use Rattle.rv_mem.specs.declared.words.Seen.{Seen}
use Rattle.rv_mem.specs.declared.words.Seen.TheVariants.{Known as KnownWord, Untouched, Vacant}
use Rattle.rv_mem.specs.Seen.{known_word}
use Rattle.rv_script.specs.declared.access.Access.{Access}
use Rattle.rv_script.specs.declared.place.Place.{Place}
use Rattle.rv_script.specs.declared.place.Place.TheVariants.{Word}
use Rattle.rv_script.specs.Lists.{HasItem}
use Rattle.rv_script.specs.Bytes.{word_address}
use Rattle.rv_script.specs.Script.{Question, Question.OfRegister, Question.OfCsr, Question.OfMemory, Question.ToMemory, place_of, told, access_of, Script, Script.Ask, Script.Outside, Script.Done}
use Rattle.rv_script.specs.Folds.{Known, Answer, Answer.Does, Answer.Missing as Lacks, Answer.Nowhere, by_known, noted, on_told, play, answer_on}
use Rattle.rv_hart.specs.declared.hart.Hart.{Hart}
use Rattle.rv_hart.specs.declared.record.Change.{Change}
use Rattle.rv_hart.specs.declared.record.Stepped.{Stepped}
use Rattle.rv_hart.specs.Changes.{csrs_after, privilege_after}
use Rattle.rv_hart.specs.Machine.{script}
use Rattle.rv_hart.specs.Registers.{written}
use Rattle.rv_hart.specs.View.{known, fixed_of, shown, pc_after, regs_after, control_in, accesses_in}
use Rattle.part_machine.specs.Notes.{IsKnownAt}
use Rattle.part_machine.specs.Whole.{Bare, bare, known_in, fixed_in, next_in, bare_after}

-- the hart after a step
pub record IsStepped (h h' : Hart) (at : ℕ → Seen) (result : Stepped) : Type 0 where
  pub answer : result ≡ shown (fixed_of h at) (answer_on (known h at) (script (fixed_of h at)))
  pub pc : h'.pc ≡ pc_after result h.pc
  pub regs : h'.regs ≡ regs_after result h.regs
  pub privilege : h'.privilege ≡ privilege_after h.privilege h.csrs.mstatus h.csrs.medeleg (control_in (answer_on (known h at) (script (fixed_of h at))))
  pub csrs : h'.csrs ≡ csrs_after h.privilege h.pc (control_in (answer_on (known h at) (script (fixed_of h at)))) h.csrs

pub stepped_bare : (h h' : Hart) (at : ℕ → Seen) (result : Stepped) (b : Bare) (xs : List Access) (c : Change)
    → IsStepped h h' at result → bare h ≡ b → next_in b at ≡ Does xs c → bare h' ≡ bare_after c b
stepped_bare h h' at result b xs c s is next =
    let does : answer_on (known h at) (script (fixed_of h at)) ≡ Does xs c = ap (λ (q : Bare). next_in q at) is ∙ next in
    let told : result ≡ shown (fixed_of h at) (Does xs c) = s.answer ∙ ap (shown (fixed_of h at)) does in
    let pc : h'.pc ≡ c.next_pc = s.pc ∙ ap (λ (r : Stepped). pc_after r h.pc) told in
    let regs : h'.regs ≡ written c.rd h.regs = s.regs ∙ ap (λ (r : Stepped). regs_after r h.regs) told in
    let privilege : h'.privilege ≡ privilege_after h.privilege h.csrs.mstatus h.csrs.medeleg c.control =
    s.privilege ∙ ap (λ (a : Answer Access Change). privilege_after h.privilege h.csrs.mstatus h.csrs.medeleg (control_in a)) does in
    let csrs : h'.csrs ≡ csrs_after h.privilege h.pc c.control h.csrs = s.csrs ∙ ap (λ (a : Answer Access Change). csrs_after h.privilege h.pc (control_in a) h.csrs) does in
    let here : bare h' ≡ bare_after c (bare h) = λ i. record { pc = pc i; privilege = privilege i; regs = regs i; csrs = csrs i } in
    here ∙ ap (bare_after c) is

pub stepped_accesses : (h : Hart) (at : ℕ → Seen) (result : Stepped) (b : Bare) (xs : List Access) (c : Change)
    → result ≡ shown (fixed_of h at) (answer_on (known h at) (script (fixed_of h at))) → bare h ≡ b → next_in b at ≡ Does xs c → accesses_in result ≡ xs
stepped_accesses h at result b xs c answer is next =
    let does : answer_on (known h at) (script (fixed_of h at)) ≡ Does xs c = ap (λ (q : Bare). next_in q at) is ∙ next in
    ap accesses_in (answer ∙ ap (shown (fixed_of h at)) does)

pub stepped_record : (h : Hart) (at : ℕ → Seen) (result : Stepped) (b : Bare) (xs : List Access) (c : Change)
    → result ≡ shown (fixed_of h at) (answer_on (known h at) (script (fixed_of h at))) → bare h ≡ b → next_in b at ≡ Does xs c → result ≡ shown (fixed_of h at) (Does xs c)
stepped_record h at result b xs c answer is next = answer ∙ ap (shown (fixed_of h at)) (ap (λ (q : Bare). next_in q at) is ∙ next)

-- ---- each access of what is told on known places is in a known word

access_word : (q : Question) (v : ℕ) (x : Access) → access_of q v ≡ Some x → place_of q ≡ Word (word_address x.addr)
access_word (OfRegister label n) v x e = absurd (cc e)
access_word (OfCsr label addr) v x e = absurd (cc e)
access_word (OfMemory label addr size) v x e = ap (λ (o : Option Access). Word (word_address (addr_of addr o))) e
  where
    addr_of : ℕ → Option Access → ℕ
    addr_of a None = a
    addr_of a (Some y) = y.addr
access_word (ToMemory addr size value) v x e = ap (λ (o : Option Access). Word (word_address (addr_of addr o))) e
  where
    addr_of : ℕ → Option Access → ℕ
    addr_of a None = a
    addr_of a (Some y) = y.addr

pub accesses_known : {A : Type 0} (known : Known) (s : Script A) (xs : List Access) (a : A) → play access_of (by_known known) s ≡ Does xs a
    → (x : Access) → HasItem xs x → IsSome (known (Word (word_address x.addr)))
accesses_known {A} known (Ask q next) xs a e x i = go (known (place_of q)) refl (λ v ys e' j. accesses_known known (next (told q v)) ys a e' x j) e
  where
    first : (v : ℕ) (o : Option Access) (rest : Answer Access A) → access_of q v ≡ o → known (place_of q) ≡ Some v
        → ((ys : List Access) → rest ≡ Does ys a → HasItem ys x → IsSome (known (Word (word_address x.addr))))
        → noted o rest ≡ Does xs a → HasItem xs x → IsSome (known (Word (word_address x.addr)))
    first v None rest is k ih e i = ih xs e i
    first v (Some y) (Does ys b) is k ih e i =
        let list : y ∷ ys ≡ xs = cc e in
        let value : b ≡ a = cc e in
        let i' : HasItem (y ∷ ys) x = subst (λ (l : List Access). HasItem l x) (sym list) i in
        elim i' [
          | inl here ↦ subst (λ (z : Access). IsSome (known (Word (word_address z.addr)))) here (subst (λ (p : Place). IsSome (known p)) (access_word q v y is) (subst IsSome (sym k) refl))
          | inr there ↦ ih ys (ap (λ (c : A). let r : Answer Access A = Does ys c in r) value) there
        ]
    first v (Some y) (Lacks place) is k ih e i = absurd (cc e)
    first v (Some y) Nowhere is k ih e i = absurd (cc e)

    go : (o : Option ℕ) → known (place_of q) ≡ o
        → ((v : ℕ) (ys : List Access) → play access_of (by_known known) (next (told q v)) ≡ Does ys a → HasItem ys x → IsSome (known (Word (word_address x.addr))))
        → on_told o (place_of q) (λ v. noted (access_of q v) (play access_of (by_known known) (next (told q v)))) ≡ Does xs a → IsSome (known (Word (word_address x.addr)))
    go None k ih e = absurd (cc e)
    go (Some v) k ih e = first v (access_of q v) (play access_of (by_known known) (next (told q v))) refl k (ih v) e i
accesses_known known Outside xs a e x i = absurd (cc e)
accesses_known known (Done b) xs a e x i = let none : [] ≡ xs = cc e in let no : HasItem [] x = subst (λ (l : List Access). HasItem l x) (sym none) i in absurd no

pub item_of : {A : Type 0} (xs : List A) (k : ℕ) (d : A) → k < length xs → HasItem xs (get_or xs k d)
item_of [] k d l = absurd (omega arith)
item_of (x ∷ xs) zero d l = inl refl
item_of (x ∷ xs) (suc k) d l = inr (item_of xs k d (omega arith))

known_there : (s : Seen) → IsSome (known_word s) → (v : ℕ) × (s ≡ KnownWord v)
known_there (KnownWord w) e = (w, refl)
known_there Untouched e = absurd (cc e)
known_there Vacant e = absurd (cc e)

pub all_known : (b : Bare) (at : ℕ → Seen) (xs : List Access) (c : Change) → next_in b at ≡ Does xs c → All (λ x. IsKnownAt at x.addr) xs
all_known b at xs c next k d l =
    let x : Access = get_or xs k d in
    let some : IsSome (known_word (at (word_address x.addr / 4))) = accesses_known (known_in b at) (script (fixed_in b at)) xs c next x (item_of xs k d l) in
    let word : word_address x.addr / 4 ≡ x.addr / 4 = omega arith in
    known_there (at (x.addr / 4)) (subst (λ (n : ℕ). IsSome (known_word (at n))) word some)
