-- What is asked behind the sources is told by its place.
use Rattle.std.proofs.Common.{◌≡◌, ℕ, if◌then◌else◌, ◌+◌, ◌%◌, ◌^◌, ◌<◌, Bool, true, false, eqb, ◌&&◌, ◌||◌, List, ◌++◌, Option, Some, None, refl, sym, ap, ◌∙◌, subst, inl, inr, arith}
use Rattle.std.proofs.lemmas.Bool.{cases_Bool, eq-eqb, eqb-true}
use Rattle.rv_isa.specs.declared.instruction.Instr.{Instr}
use Rattle.rv_isa.specs.declared.table.Row.{Row}
use Rattle.rv_isa.specs.Fields.{is_load, is_store, has_address}
use Rattle.rv_isa.specs.Table.{row_of}
use Rattle.rv_csr.specs.declared.cause.Cause.{Cause}
use Rattle.rv_csr.specs.declared.cause.Cause.TheVariants.{LoadMisaligned, StoreMisaligned}
use Rattle.rv_script.specs.declared.place.Place.TheVariants.{Word}
use Rattle.rv_script.specs.Bytes.{word_address}
use Rattle.rv_script.specs.Labels.{Asks, label_of}
use Rattle.rv_script.specs.Lists.{HasItem}
use Rattle.rv_script.specs.Logs.{answer_told, by_answers, entry_label, entry_place, is_word, or_given, value_or}
use Rattle.rv_script.specs.Script.{Label.DataRoot, Label.DataSecond, Label.DataWord, Question, Question.OfRegister, Question.OfCsr, Question.OfMemory, Question.ToMemory, Script, ◌>>=◌, place_of}
use Rattle.rv_script.specs.Folds.{Answer.Does, Entry, Teller}
use Rattle.rv_script.proofs.Plays.{entry}
use Rattle.rv_script.proofs.Items.{has_either, has_first}
use Rattle.rv_hart.specs.declared.record.Change.{Change}
use Rattle.rv_hart.specs.Machine.{arriving, at_address, data_view, load_at, reached, size_of, store_at}
use Rattle.rv_hart.specs.Privileged.{trap}
use Rattle.rv_hart.specs.Rests.{rest}
use Rattle.sv_walk.specs.declared.entry.Kind.{Kind}
use Rattle.sv_walk.specs.declared.entry.Kind.TheVariants.{Load as ForLoad, Store as ForStore}
use Rattle.sv_walk.specs.declared.entry.View.{View}
use Rattle.sv_walk.specs.Translation.{At, Fails, Reached, is_translated, root_address, second_address, translated}
use Rattle.fd_prob.specs.declared.slot.Slot.TheVariants as slots
use Rattle.leaf_link.specs.Turns.{Turn}
use Rattle.leaf_link.specs.Values.{Values, given_by}
use Rattle.leaf_link.specs.Placing.{data_value, is_second, root_entry}
use Rattle.leaf_link.proofs.DataWalks.{IsOfData, IsWalk, leads, root_aligned, root_asked, second_aligned, second_asked, walk_is}
use Rattle.leaf_link.proofs.Loads.{load_rest}
use Rattle.leaf_link.proofs.NewWords.{IsForCsr, rest_csrs, trap_csrs}
use Rattle.leaf_link.proofs.Placing.{asked_by}
use Rattle.leaf_link.proofs.Reaching.{then_done}
use Rattle.leaf_link.proofs.Stores.{store_rest}

-- what the place says of a question's answer is what the values say
abbrev pub IsByPlace : Turn → Values → Question → Type 0
IsByPlace t x (OfMemory label addr size) = data_value t x (word_address addr) ≡ given_by x label
IsByPlace t x (ToMemory addr size value) = data_value t x (word_address addr) ≡ x slots.DataWord
IsByPlace t x (OfRegister label n) = Unit {0}
IsByPlace t x (OfCsr label addr) = Unit {0}

csr_by_place : (t : Turn) (x : Values) (q : Question) → IsForCsr q → IsByPlace t x q
csr_by_place t x (OfCsr label addr) h = tt
csr_by_place t x (OfRegister label n) h = absurd h
csr_by_place t x (OfMemory label addr size) h = absurd h
csr_by_place t x (ToMemory addr size value) h = absurd h

-- the access itself
abbrev IsAccess : ℕ → Question → Type 0
IsAccess p (OfMemory label addr size) = (label ≡ DataWord) × (addr ≡ p)
IsAccess p (ToMemory addr size value) = addr ≡ p
IsAccess p (OfRegister label n) = ⊥
IsAccess p (OfCsr label addr) = ⊥

-- the word of a multiple of 4 is itself
whole_word : (n : ℕ) → n % 4 ≡ 0 → word_address n ≡ n
whole_word n h = omega (arith, h)

given_one : (o : Option ℕ) (g v : ℕ) → or_given o g ≡ Some v → value_or o g ≡ v
given_one (Some w) g v h = cc
given_one None g v h = cc

root_not_second : DataRoot ≡ DataSecond → ⊥
root_not_second h = absurd (cc h)

root_not_word : DataRoot ≡ DataWord → ⊥
root_not_word h = absurd (cc h)

second_not_word : DataSecond ≡ DataWord → ⊥
second_not_word h = absurd (cc h)

-- what is known of the log of a candidate
pub record IsLog (t : Turn) (x : Values) (log : List Entry) : Type 0 where
  pub tells : (e : Entry) → HasItem log e → by_answers t.known (given_by x) e.question ≡ Some e.value
  pub once : (e f : Entry) → HasItem log e → HasItem log f → t.known (entry_place e) ≡ None → entry_place e ≡ entry_place f → is_word (entry_place e) ≡ true → entry_label e ≡ entry_label f
  pub small : (e : Entry) → HasItem log e → e.value < 2 ^ 32

module _ (t : Turn) (x : Values) (log : List Entry) (is : IsLog t x log) where
  abbrev pub v : View
  v = data_view t.fixed

  abbrev pub ea : ℕ
  ea = x slots.Ea

  root_word : word_address (root_address v ea) ≡ root_address v ea
  root_word = whole_word (root_address v ea) (root_aligned v ea)

  -- no other word of the access is that of the root entry
  not_root : (r : ℕ) → HasItem log (entry (root_asked v ea) r) → (e : Entry) → HasItem log e → t.known (entry_place e) ≡ None → (addr : ℕ) → entry_place e ≡ Word (word_address addr) → (entry_label e ≡ DataRoot → ⊥)
      → eqb (word_address addr) (root_address v ea) ≡ false
  not_root r i e j none addr at apart = elim (cases_Bool (eqb (word_address addr) (root_address v ea))) [
    | inl y ↦
        let same : entry_place e ≡ Word (word_address (root_address v ea)) = at ∙ ap (λ (n : ℕ). Word n) (eqb-true (word_address addr) (root_address v ea) y ∙ sym root_word) in
        absurd (apart (is.once e (entry (root_asked v ea) r) j i none same (ap is_word at)))
    | inr n ↦ n
  ]

  root_value : (r : ℕ) → HasItem log (entry (root_asked v ea) r) → root_entry t x ≡ r
  root_value r i =
      ap (λ (n : ℕ). value_or (t.known (Word n)) (x slots.FirstPte)) (sym root_word)
      ∙ given_one (t.known (Word (word_address (root_address v ea)))) (x slots.FirstPte) r (is.tells (entry (root_asked v ea) r) i)

  not_second : (r s : ℕ) → HasItem log (entry (second_asked ea r) s) → (e : Entry) → HasItem log e → t.known (entry_place e) ≡ None → (addr : ℕ) → entry_place e ≡ Word (word_address addr) → (entry_label e ≡ DataSecond → ⊥)
      → is_second ea r (word_address addr) ≡ false
  not_second r s i e j none addr at apart = elim (cases_Bool (eqb (word_address addr) (second_address ea r))) [
    | inl y ↦
        let same : entry_place e ≡ Word (word_address (second_address ea r)) = at ∙ ap (λ (n : ℕ). Word n) (eqb-true (word_address addr) (second_address ea r) y ∙ sym (whole_word (second_address ea r) (second_aligned ea r))) in
        absurd (apart (is.once e (entry (second_asked ea r) s) j i none same (ap is_word at)))
    | inr n ↦ ap (λ (b : Bool). leads r && b) n ∙ and_false (leads r)
  ]
    where
      and_false : (b : Bool) → (b && false) ≡ false
      and_false true = refl
      and_false false = refl

  -- by whether addresses are translated, whether the word is the root entry's, and whether it is the second one's
  abbrev by_tests : Bool → Bool → Bool → ℕ
  by_tests b c d = if b then (if c then x slots.FirstPte else if d then x slots.SecondPte else x slots.DataWord) else x slots.DataWord

  value_by : (addr : ℕ) (b c d : Bool) → is_translated v ≡ b → eqb (word_address addr) (root_address v ea) ≡ c → is_second ea (root_entry t x) (word_address addr) ≡ d → data_value t x (word_address addr) ≡ by_tests b c d
  value_by addr b c d h k m =
      ap (λ (z : Bool). by_tests z (eqb (word_address addr) (root_address v ea)) (is_second ea (root_entry t x) (word_address addr))) h
      ∙ ap (λ (z : Bool). by_tests b z (is_second ea (root_entry t x) (word_address addr))) k
      ∙ ap (λ (z : Bool). by_tests b c z) m

  -- the root entry
  root_here : is_translated v ≡ true → IsByPlace t x (root_asked v ea)
  root_here on = value_by (root_address v ea) true true _ on (eq-eqb (word_address (root_address v ea)) (root_address v ea) root_word) refl

  -- the second one, where it is new
  second_here : (r s : ℕ) → is_translated v ≡ true → leads r ≡ true → HasItem log (entry (root_asked v ea) r) → HasItem log (entry (second_asked ea r) s) → t.known (place_of (second_asked ea r)) ≡ None → IsByPlace t x (second_asked ea r)
  second_here r s on deep i j none =
      value_by (second_address ea r) true false true on
      (not_root r i (entry (second_asked ea r) s) j none (second_address ea r) refl (λ h. root_not_second (sym h)))
      (ap (λ (n : ℕ). is_second ea n (word_address (second_address ea r))) (root_value r i)
      ∙ ap (λ (b : Bool). b && eqb (word_address (second_address ea r)) (second_address ea r)) deep
      ∙ eq-eqb (word_address (second_address ea r)) (second_address ea r) (whole_word (second_address ea r) (second_aligned ea r)))

  -- the data word, where it is new, behind a walk that leads to its address
  word_here : (walk : List Entry) (p : ℕ) → IsWalk v ea walk (At p) → ((e : Entry) → HasItem walk e → HasItem log e) → (e : Entry) → HasItem log e → t.known (entry_place e) ≡ None → entry_place e ≡ Word (word_address p) → entry_label e ≡ DataWord
      → data_value t x (word_address p) ≡ x slots.DataWord
  word_here walk p shape among e j none at label = elim shape [
    | inl bare ↦ value_by p false _ _ (bare.plain p refl) refl refl
    | inr asked ↦ elim asked [
      | inl w ↦
          let i : HasItem log (entry (root_asked v ea) w.root) = among (entry (root_asked v ea) w.root) (subst (λ (l : List Entry). HasItem l (entry (root_asked v ea) w.root)) (sym w.walk_is) (inl refl)) in
          value_by p true false false w.translated (not_root w.root i e j none p at (λ h. root_not_word (sym h ∙ label)))
          (ap (λ (n : ℕ). is_second ea n (word_address p)) (root_value w.root i) ∙ ap (λ (b : Bool). b && eqb (word_address p) (second_address ea w.root)) (w.ends p refl))
      | inr w ↦
          let i : HasItem log (entry (root_asked v ea) w.root) = among (entry (root_asked v ea) w.root) (subst (λ (l : List Entry). HasItem l (entry (root_asked v ea) w.root)) (sym w.walk_is) (inl refl)) in
          let k : HasItem log (entry (second_asked ea w.root) w.second) = among (entry (second_asked ea w.root) w.second) (subst (λ (l : List Entry). HasItem l (entry (second_asked ea w.root) w.second)) (sym w.walk_is) (inr (inl refl))) in
          value_by p true false false w.translated (not_root w.root i e j none p at (λ h. root_not_word (sym h ∙ label)))
          (ap (λ (n : ℕ). is_second ea n (word_address p)) (root_value w.root i) ∙ not_second w.root w.second k e j none p at (λ h. second_not_word (sym h ∙ label)))
    ]
  ]

  -- an entry of the walk
  entry_here : (walk : List Entry) (end : Reached) → IsWalk v ea walk end → ((e : Entry) → HasItem walk e → HasItem log e) → (e : Entry) → HasItem walk e → t.known (entry_place e) ≡ None → IsByPlace t x e.question
  entry_here walk end shape among e i none = elim shape [
    | inl bare ↦ absurd (subst (λ (l : List Entry). HasItem l e) bare.walk_is i)
    | inr asked ↦ elim asked [
      | inl w ↦ elim (subst (λ (l : List Entry). HasItem l e) w.walk_is i) [
        | inl here ↦ subst (λ (d : Entry). IsByPlace t x d.question) here (root_here w.translated)
        | inr there ↦ absurd there
      ]
      | inr w ↦
          let one : HasItem log (entry (root_asked v ea) w.root) = among (entry (root_asked v ea) w.root) (subst (λ (l : List Entry). HasItem l (entry (root_asked v ea) w.root)) (sym w.walk_is) (inl refl)) in
          let two : HasItem log (entry (second_asked ea w.root) w.second) = among (entry (second_asked ea w.root) w.second) (subst (λ (l : List Entry). HasItem l (entry (second_asked ea w.root) w.second)) (sym w.walk_is) (inr (inl refl))) in
          elim (subst (λ (l : List Entry). HasItem l e) w.walk_is i) [
            | inl here ↦ subst (λ (d : Entry). IsByPlace t x d.question) here (root_here w.translated)
            | inr more ↦ elim more [
              | inl here ↦ subst (λ (d : Entry). IsByPlace t x d.question) here (second_here w.root w.second w.translated w.leads_on one two (ap (λ (d : Entry). t.known (entry_place d)) here ∙ none))
              | inr there ↦ absurd there
            ]
          ]
    ]
  ]

  -- the access itself
  access_here : (walk : List Entry) (p : ℕ) → IsWalk v ea walk (At p) → ((e : Entry) → HasItem walk e → HasItem log e) → (e : Entry) → HasItem log e → t.known (entry_place e) ≡ None → IsAccess p e.question → IsByPlace t x e.question
  access_here walk p shape among e j none access = go e.question refl access
    where
      go : (q : Question) → e.question ≡ q → IsAccess p q → IsByPlace t x q
      go (OfMemory label addr size) same a =
          let at : entry_place e ≡ Word (word_address p) = ap place_of same ∙ ap (λ (n : ℕ). Word (word_address n)) a.1 in
          ap (λ (n : ℕ). data_value t x (word_address n)) a.1 ∙ word_here walk p shape among e j none at (ap label_of same ∙ a.0) ∙ ap (given_by x) (sym a.0)
      go (ToMemory addr size value) same a =
          let at : entry_place e ≡ Word (word_address p) = ap place_of same ∙ ap (λ (n : ℕ). Word (word_address n)) a in
          ap (λ (n : ℕ). data_value t x (word_address n)) a ∙ word_here walk p shape among e j none at (ap label_of same)
      go (OfRegister label n) same a = absurd a
      go (OfCsr label addr) same a = absurd a

  -- THE REST OF A LOAD OR STORE
  trap_here : (word : ℕ) (cause : Cause) (value : ℕ) (tell : Teller) (rest : List Entry) (change : Change) → answer_told tell (trap t.fixed word cause value) ≡ Does rest change → (e : Entry) → HasItem rest e → IsByPlace t x e.question
  trap_here word cause value tell rest change h e i = csr_by_place t x e.question (asked_by IsForCsr (trap t.fixed word cause value) tell rest change (trap_csrs t.fixed word cause value) h e i)

  translated_here : (word : ℕ) (kind : Kind) (access : ℕ → Script Change) (tell : Teller) (rest : List Entry) (change : Change) → IsOfData kind → ((p : ℕ) → Asks (IsAccess p) (access p))
      → answer_told tell (translated t.fixed.ram v kind ea >>= arriving t.fixed word ea access) ≡ Does rest change → ((e : Entry) → HasItem rest e → HasItem log e) → (e : Entry) → HasItem rest e → t.known (entry_place e) ≡ None → IsByPlace t x e.question
  translated_here word kind access tell rest change of asks h among e i none =
      let d = then_done (translated t.fixed.ram v kind ea) (arriving t.fixed word ea access) tell rest change h in
      go d.0 d.1 d.2 d.3 d.4 d.5
    where
      go : (walk : List Entry) (end : Reached) (last : List Entry) → answer_told tell (translated t.fixed.ram v kind ea) ≡ Does walk end → answer_told tell (arriving t.fixed word ea access end) ≡ Does last change → rest ≡ walk ++ last → IsByPlace t x e.question
      go walk (At p) last walks arrives split =
          let first : (d : Entry) → HasItem walk d → HasItem log d = λ d j. among d (subst (λ (l : List Entry). HasItem l d) (sym split) (has_first walk last d j)) in
          let shape = walk_is t.fixed.ram v kind ea tell of walk (At p) walks (λ d j. is.small d (first d j)) in
          elim (has_either walk last e (subst (λ (l : List Entry). HasItem l e) split i)) [
            | inl j ↦ entry_here walk (At p) shape first e j none
            | inr j ↦ access_here walk p shape first e (among e i) none (asked_by (IsAccess p) (access p) tell last change (asks p) arrives e j)
          ]
      go walk (Fails cause) last walks arrives split =
          let first : (d : Entry) → HasItem walk d → HasItem log d = λ d j. among d (subst (λ (l : List Entry). HasItem l d) (sym split) (has_first walk last d j)) in
          let shape = walk_is t.fixed.ram v kind ea tell of walk (Fails cause) walks (λ d j. is.small d (first d j)) in
          elim (has_either walk last e (subst (λ (l : List Entry). HasItem l e) split i)) [
            | inl j ↦ entry_here walk (Fails cause) shape first e j none
            | inr j ↦ trap_here word cause ea tell last change arrives e j
          ]

  reached_here : (word : ℕ) (kind : Kind) (size : ℕ) (misaligned : Cause) (access : ℕ → Script Change) (tell : Teller) (rest : List Entry) (change : Change) → IsOfData kind → ((p : ℕ) → Asks (IsAccess p) (access p))
      → answer_told tell (reached t.fixed word kind ea size misaligned access) ≡ Does rest change → ((e : Entry) → HasItem rest e → HasItem log e) → (e : Entry) → HasItem rest e → t.known (entry_place e) ≡ None → IsByPlace t x e.question
  unfolding at_address
  reached_here word kind size misaligned access tell rest change of asks h among e i none = go (eqb (ea % size) 0) h
    where
      go : (b : Bool) → answer_told tell (if b then translated t.fixed.ram v kind ea >>= arriving t.fixed word ea access else trap t.fixed word misaligned ea) ≡ Does rest change → IsByPlace t x e.question
      go true h = translated_here word kind access tell rest change of asks h among e i none
      go false h = trap_here word misaligned ea tell rest change h e i

  load_asks : (word : ℕ) (i : Instr) (p : ℕ) → Asks (IsAccess p) (load_at t.fixed word i p)
  unfolding load_at
  load_asks word i p = ((refl, refl), λ w. tt)

  store_asks : (word : ℕ) (i : Instr) (value p : ℕ) → Asks (IsAccess p) (store_at t.fixed word i value p)
  unfolding store_at
  store_asks word i value p = (refl, λ w. tt)

  -- what is asked behind the sources
  pub rest_here : (row : Row) (word : ℕ) (i : Instr) (a b : ℕ) (tell : Teller) (others : List Entry) (change : Change) → row_of i.op ≡ row → (has_address row ≡ true → ea ≡ (a + i.imm) % 2 ^ 32)
      → answer_told tell (rest row t.fixed word i a b) ≡ Does others change → ((e : Entry) → HasItem others e → HasItem log e) → (e : Entry) → HasItem others e → t.known (entry_place e) ≡ None → IsByPlace t x e.question
  rest_here row word i a b tell others change same address h among e j none = elim (cases_Bool (is_load row)) [
    | inl load ↦
        let at : ea ≡ (a + i.imm) % 2 ^ 32 = address (ap (λ (c : Bool). c || is_store row) load) in
        reached_here word ForLoad (size_of i.op) LoadMisaligned (load_at t.fixed word i) tell others change (record { root = refl; second = refl }) (load_asks word i)
        (ap (λ (n : ℕ). answer_told tell (reached t.fixed word ForLoad n (size_of i.op) LoadMisaligned (load_at t.fixed word i))) at ∙ ap (answer_told tell) (sym (load_rest row load t.fixed word i a b)) ∙ h) among e j none
    | inr other ↦ elim (cases_Bool (is_store row)) [
      | inl store ↦
          let at : ea ≡ (a + i.imm) % 2 ^ 32 = address (right (is_load row) (is_store row) store) in
          reached_here word ForStore (size_of i.op) StoreMisaligned (store_at t.fixed word i b) tell others change (record { root = refl; second = refl }) (store_asks word i b)
          (ap (λ (n : ℕ). answer_told tell (reached t.fixed word ForStore n (size_of i.op) StoreMisaligned (store_at t.fixed word i b))) at ∙ ap (answer_told tell) (sym (store_rest row store t.fixed word i a b)) ∙ h) among e j none
      | inr no_store ↦ csr_by_place t x e.question (asked_by IsForCsr (rest row t.fixed word i a b) tell others change (rest_csrs row t.fixed word i a b same (ap (λ (c : Bool). c || is_store row) other ∙ no_store)) h e j)
    ]
  ]
    where
      right : (b c : Bool) → c ≡ true → (b || c) ≡ true
      right true c h = refl
      right false c h = h
