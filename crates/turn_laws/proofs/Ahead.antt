-- The next step of a hart while the places that it starts are given to it.
use Rattle.std.proofs.Common.{◌≡◌, ℕ, zero, suc, ◌+◌, ◌/◌, ◌%◌, ◌^◌, ◌<◌, ◌≤◌, Bool, true, false, ◌||◌, eqb, ltb, if◌then◌else◌, List, [], ◌∷◌, ◌++◌, map, length, ◌⊎◌, Option, Some, None, refl, sym, ap, ◌∙◌, subst, inl, inr, arith}
use Rattle.std.specs.Prelude.{IsTrue, nat_eq}
use Rattle.std.specs.List.{list_any}
use Rattle.std.proofs.lemmas.Bool.{and_parts, eq-eqb, eqb-true, ltb-true, or_cases}
use Rattle.std.proofs.lemmas.Option.{same_Some}
use Rattle.dom_set.specs.Elements.{is_in}
use Rattle.rv_isa.specs.declared.instruction.Instr.{Instr}
use Rattle.rv_csr.specs.declared.table.LazyRegister.{LazyRegister}
use Rattle.rv_csr.specs.declared.table.LazyRegister.TheVariants.{Stvec}
use Rattle.rv_csr.specs.declared.table.Register.TheVariants.{Lazy}
use Rattle.rv_csr.specs.Table.{address_of, is_legal_at, lazy_registers, register_at}
use Rattle.rv_mem.specs.Ram.{in_ram}
use Rattle.rv_script.specs.declared.access.Access.{Access}
use Rattle.rv_script.specs.declared.place.Place.{Place}
use Rattle.rv_script.specs.declared.place.Place.TheVariants.{Reg, Csr}
use Rattle.rv_script.specs.Bytes.{word_address}
use Rattle.rv_script.specs.Lists.{HasItem}
use Rattle.rv_script.specs.Script.{Label, Label.FromCsr, Label.FromVector, Question, Question.OfRegister, Question.OfCsr, Question.OfMemory, Question.ToMemory, access_of, place_of, Script}
use Rattle.rv_script.specs.Folds.{Known, Answer, Answer.Does, Answer.Missing as Lacks, Answer.Nowhere, Entry, by_known, play}
use Rattle.rv_script.specs.Labels.{Asks, label_of}
use Rattle.rv_script.specs.Laws.{TellsMore}
use Rattle.rv_script.specs.Logs.{answer_told, enlarged, entry_label, entry_place, found, or_else, same_place, started, where_unknown}
use Rattle.rv_script.proofs.Plays.{found_one, play_same, same_is, same_refl}
use Rattle.sv_walk.specs.Translation.{is_in_ram}
use Rattle.rv_hart.specs.declared.record.Change.{Change}
use Rattle.rv_hart.specs.Asked.{IsAskable, is_lazy}
use Rattle.rv_hart.specs.Fixed.{Fixed}
use Rattle.rv_hart.specs.Machine.{script}
use Rattle.rv_hart.proofs.Askable.{asks_places, needable}
use Rattle.rv_hart.proofs.Forms.{script_between}
use Rattle.foot_map.specs.declared.touch.Touch.{Touch}
use Rattle.part_machine.specs.Whole.{Whole, fixed_in, hart_of, next_of}
use Rattle.part_state.specs.Meaning.{CanStart, IsLegalValue, IsNamed, IsStartable, IsTest, place_given}
use Rattle.leaf_link.specs.Turns.{Turn, holds_address, may_be_for, may_be_old, may_start}
use Rattle.leaf_link.specs.Candidates.{accesses_in}
use Rattle.turn_laws.specs.Given.{AreListed, CanGive, IsAddressed, Setting, all_given, given_to, known_at, turn_at}
use Rattle.turn_laws.specs.Played.{IsPlayed}
use Rattle.turn_laws.specs.Ahead.{AreAmong, AreVectors, IsNextPlace, IsUnderway, count_unknown, unknown_in}
use Rattle.turn_laws.proofs.Places.{beside, fixed_parts, known, tests}
use Rattle.turn_laws.proofs.Steps.{register_known, tells, with_accesses}
use Rattle.turn_laws.proofs.Lacking.{AreTold, IsLackedIn, IsStopped, asked_in, few_asked, found_at, less_unknown, stopped_or_told}
use Rattle.turn_laws.proofs.CsrQuestions.{AsksCsr, IsCsrFor, asks_csrs}

-- ---- one place more

pub one_more_given : (k : ℕ) (es : List (Place × ℕ)) (place : Place) (v : ℕ) (w : Whole) → all_given k (es ++ (place, v) ∷ []) w ≡ place_given k place v (all_given k es w)
one_more_given k [] place v w = refl
one_more_given k (e ∷ es) place v w = one_more_given k es place v (place_given k e.0 e.1 w)

can_give_more : (k : ℕ) (es : List (Place × ℕ)) (place : Place) (v : ℕ) (w : Whole) → CanGive k es w → CanStart k place v (all_given k es w) → IsAddressed place → v < 2 ^ 32 → CanGive k (es ++ (place, v) ∷ []) w
can_give_more k [] place v w can start address fits = (start, address, fits, tt)
can_give_more k (e ∷ es) place v w can start address fits = (can.0, can.1, can.2, can_give_more k es place v (place_given k e.0 e.1 w) can.3 start address fits)

abbrev last_given : Place → ℕ → Known
last_given place v other = if same_place place other then Some v else None

given_more : (es : List (Place × ℕ)) (place : Place) (v : ℕ) (other : Place) → given_to (es ++ (place, v) ∷ []) other ≡ or_else (given_to es other) (last_given place v other)
given_more [] place v other = refl
given_more (e ∷ es) place v other = go (same_place e.0 other) (given_more es place v other)
  where
    go : (b : Bool) → given_to (es ++ (place, v) ∷ []) other ≡ or_else (given_to es other) (last_given place v other)
        → (if b then Some e.1 else given_to (es ++ (place, v) ∷ []) other) ≡ or_else (if b then Some e.1 else given_to es other) (last_given place v other)
    go true rest = refl
    go false rest = rest

among_more : (new : Known) (es : List (Place × ℕ)) (place : Place) (v : ℕ) → AreAmong es new → new place ≡ Some v → AreAmong (es ++ (place, v) ∷ []) new
among_more new es place v among is other u h = either (given_to es other) refl (sym (given_more es place v other) ∙ h)
  where
    last : (b : Bool) → same_place place other ≡ b → (if b then Some v else None) ≡ Some u → new other ≡ Some u
    last true same e = subst (λ (q : Place). new q ≡ Some u) (same_is place other same) (is ∙ e)
    last false apart e = absurd (cc)

    either : (o : Option ℕ) → given_to es other ≡ o → or_else o (last_given place v other) ≡ Some u → new other ≡ Some u
    either (Some x) given e = among other u (given ∙ e)
    either None given e = last (same_place place other) refl e

-- ---- values that may be started are legal

lazy_among : (rs : List LazyRegister) (addr : ℕ) → list_any (λ a. nat_eq addr a) (map (λ r. address_of (Lazy r)) rs) ≡ true → (r : LazyRegister) × (addr ≡ address_of (Lazy r))
lazy_among [] addr h = absurd (cc)
lazy_among (r ∷ rs) addr h = elim (or_cases (eqb addr (address_of (Lazy r))) (list_any (λ a. nat_eq addr a) (map (λ x. address_of (Lazy x)) rs)) h) [
  | inl here ↦ (r, eqb-true addr (address_of (Lazy r)) here)
  | inr there ↦ lazy_among rs addr there
]

at_address : (r : LazyRegister) → register_at (address_of (Lazy r)) ≡ Some (Lazy r)
at_address Stvec = refl
at_address _ = refl

lazy_at : (addr : ℕ) → is_lazy addr ≡ true → (r : LazyRegister) × (register_at addr ≡ Some (Lazy r))
lazy_at addr h = let found = lazy_among lazy_registers addr h in (found.0, ap (λ (a : ℕ). register_at a) found.1 ∙ at_address found.0)

multiple_of_four : (addr v : ℕ) → (addr ≡ 0x105) ⊎ ((addr ≡ 0x141) ⊎ ((addr ≡ 0x305) ⊎ (addr ≡ 0x341))) → v % 4 ≡ 0 → IsTrue (is_legal_at addr v)
multiple_of_four addr v (inl is) h = subst (λ (a : ℕ). IsTrue (is_legal_at a v)) (sym is) (eq-eqb (v % 4) 0 h)
multiple_of_four addr v (inr (inl is)) h = subst (λ (a : ℕ). IsTrue (is_legal_at a v)) (sym is) (eq-eqb (v % 4) 0 h)
multiple_of_four addr v (inr (inr (inl is))) h = subst (λ (a : ℕ). IsTrue (is_legal_at a v)) (sym is) (eq-eqb (v % 4) 0 h)
multiple_of_four addr v (inr (inr (inr is))) h = subst (λ (a : ℕ). IsTrue (is_legal_at a v)) (sym is) (eq-eqb (v % 4) 0 h)

which_address : (addr : ℕ) → holds_address addr ≡ true → (addr ≡ 0x105) ⊎ ((addr ≡ 0x141) ⊎ ((addr ≡ 0x305) ⊎ (addr ≡ 0x341)))
which_address addr h = elim (or_cases ((eqb addr 0x105 || eqb addr 0x141) || eqb addr 0x305) (eqb addr 0x341) h) [
  | inl three ↦ elim (or_cases (eqb addr 0x105 || eqb addr 0x141) (eqb addr 0x305) three) [
    | inl two ↦ elim (or_cases (eqb addr 0x105) (eqb addr 0x141) two) [
      | inl is ↦ inl (eqb-true addr 0x105 is)
      | inr is ↦ inr (inl (eqb-true addr 0x141 is))
    ]
    | inr is ↦ inr (inr (inl (eqb-true addr 0x305 is)))
  ]
  | inr is ↦ inr (inr (inr (eqb-true addr 0x341 is)))
]

old_legal : (t : Turn) (addr v : ℕ) → AreVectors t.vectors → may_be_old t addr v ≡ true → IsTrue (is_legal_at addr v)
old_legal t addr v vectors may = go (holds_address addr) refl may
  where
    go : (b : Bool) → holds_address addr ≡ b → (if b then is_in t.vectors v else is_legal_at addr v) ≡ true → IsTrue (is_legal_at addr v)
    go true held h = multiple_of_four addr v (which_address addr held) (vectors v h)
    go false other h = h

csr_legal : (t : Turn) (i : Instr) (label : Label) (addr v : ℕ) → IsCsrFor label addr → AreVectors t.vectors → may_be_for t i label (Csr addr) v ≡ true → IsTrue (is_legal_at addr v)
csr_legal t i FromCsr addr v asked vectors may = old_legal t addr v vectors may
csr_legal t i FromVector addr v (inl is) vectors may = multiple_of_four addr v (inl is) (vectors v may)
csr_legal t i FromVector addr v (inr is) vectors may = multiple_of_four addr v (inr (inr (inl is))) (vectors v may)
csr_legal t i _ addr v asked vectors may = absurd asked

legal_of : (t : Turn) (i : Instr) (q : Question) (v : ℕ) → AsksCsr q → AreVectors t.vectors → may_be_for t i (label_of q) (place_of q) v ≡ true → IsLegalValue (place_of q) v
legal_of t i (OfRegister label n) v asked vectors may = tt
legal_of t i (OfCsr label addr) v asked vectors may = csr_legal t i label addr v asked vectors may
legal_of t i (OfMemory label addr size) v asked vectors may = tt
legal_of t i (ToMemory addr size value) v asked vectors may = tt

-- ---- places that are asked for

named_of : (ram : ℕ → Bool) (q : Question) → IsAskable ram q → IsNamed (place_of q)
named_of ram (OfRegister label n) h = h
named_of ram (OfCsr label addr) h = tt
named_of ram (OfMemory label addr size) h = let e : word_address addr % 4 ≡ 0 = omega arith in e
named_of ram (ToMemory addr size value) h = let e : word_address addr % 4 ≡ 0 = omega arith in e

below_of : (ram : ℕ → Bool) (addr : ℕ) → is_in_ram ram addr ≡ true → addr < 2 ^ 32
below_of ram addr h = ltb-true addr (2 ^ 32) (and_parts (ltb addr (2 ^ 32)) (ram (addr / 4)) h).0

addressed_of : (ram : ℕ → Bool) (q : Question) → IsAskable ram q → IsAddressed (place_of q)
addressed_of ram (OfRegister label n) h = tt
addressed_of ram (OfCsr label addr) h = tt
addressed_of ram (OfMemory label addr size) h = below_of ram (word_address addr) (needable ram (OfMemory label addr size) h).1
addressed_of ram (ToMemory addr size value) h = below_of ram (word_address addr) (needable ram (ToMemory addr size value) h).1

-- ---- what is known with more places

grown : (o given new : Option ℕ) → ((v : ℕ) → given ≡ Some v → new ≡ Some v) → (v : ℕ) → or_else o given ≡ Some v → or_else o new ≡ Some v
grown (Some u) given new more v e = e
grown None given new more v e = more v e

neither : (o given : Option ℕ) → or_else o given ≡ None → (o ≡ None) × (given ≡ None)
neither (Some u) given e = absurd (cc)
neither None given e = (refl, e)

fewer_unknown : (o given more : Option ℕ) → count_unknown (or_else o (or_else given more)) ≤ count_unknown (or_else o given)
fewer_unknown (Some u) given more = omega arith
fewer_unknown None (Some v) more = omega arith
fewer_unknown None None None = omega arith
fewer_unknown None None (Some v) = omega arith

-- what a step starts, its log asks for
not_started : (o found : Option ℕ) → (o ≡ None → (v : ℕ) → found ≡ Some v → ⊥) → where_unknown o found ≡ None
not_started (Some u) found none = refl
not_started None None none = refl
not_started None (Some v) none = absurd (none refl v refl)

-- ---- answers

some_none : (v : ℕ) → Some v ≡ None → ⊥
some_none v e = absurd (cc e)

abbrev Next : Type 0
Next = Answer Access Change

same_lacked : (p q : Place) → (let a : Next = Lacks p in a) ≡ Lacks q → p ≡ q
same_lacked p q e = cc e

done_lacks : (xs : List Access) (c : Change) (p : Place) → (let a : Next = Does xs c in a) ≡ Lacks p → ⊥
done_lacks xs c p e = absurd (cc e)

lacks_nowhere : (p : Place) → (let a : Next = Lacks p in a) ≡ Nowhere → ⊥
lacks_nowhere p e = absurd (cc e)

done_nowhere : (xs : List Access) (c : Change) → (let a : Next = Does xs c in a) ≡ Nowhere → ⊥
done_nowhere xs c e = absurd (cc e)

-- ---- on the way

-- a script of a hart, played on what is known and on all that it starts, some of which is given
module _
    (s : Setting) (feet : List Touch) (k : ℕ) (w : Whole) (new : Known) (es : List (Place × ℕ)) (log : List Entry) (test : IsTest w) (l : k < length w.harts) (vectors : AreVectors s.vectors)
    (can : CanGive k es w) (among : AreAmong es new) where
  abbrev pub after : Whole
  after = all_given k es w

  abbrev pub fixed : Fixed
  fixed = fixed_in (hart_of k w) w.memory

  -- what is known with the places that are given, and with all of them
  abbrev pub now : Known
  now = known_at k after

  abbrev pub some : Known
  some = enlarged (known_at k w) (given_to es)

  abbrev pub all : Known
  all = enlarged (known_at k w) new

  after_test : IsTest after
  after_test = tests k es w test l can

  after_has : k < length after.harts
  after_has = let b = beside k es w in omega (arith, l, b.harts)

  same : (place : Place) → IsNamed place → now place ≡ some place
  same place named = known k es w test l can place named

  pub told_later : TellsMore (by_known now) (by_known all)
  told_later q v h =
      grown (known_at k w (place_of q)) (given_to es (place_of q)) (new (place_of q)) (among (place_of q)) v
      (tells now some (λ place named. sym (same place named)) (λ n u e. register_known k n u after (after_test.fit k after_has) e) q v h)

  ram_is : (n : ℕ) → fixed.ram n ≡ in_ram after.ram n
  ram_is n = ap (λ (f : Fixed). f.ram n) (sym (fixed_parts k es w test l can)) ∙ after_test.there n

  in_ram_after : (addr : ℕ) → is_in_ram fixed.ram addr ≡ true → in_ram after.ram (addr / 4) ≡ true
  in_ram_after addr h = sym (ram_is (addr / 4)) ∙ (and_parts (ltb addr (2 ^ 32)) (fixed.ram (addr / 4)) h).1

  no_zero : (n : ℕ) → now (Reg n) ≡ None → 0 < n
  no_zero zero none = absurd (some_none 0 (sym (after_test.fit k after_has).zero ∙ none))
  no_zero (suc n) none = omega arith

  startable : (q : Question) → IsAskable fixed.ram q → now (place_of q) ≡ None → IsStartable after.ram (place_of q)
  startable (OfRegister label n) h none = (no_zero n none, h)
  startable (OfCsr label addr) h none = lazy_at addr h
  startable (OfMemory label addr size) h none = let e : word_address addr % 4 ≡ 0 = omega arith in (e, in_ram_after (word_address addr) (needable fixed.ram (OfMemory label addr size) h).1)
  startable (ToMemory addr size value) h none = let e : word_address addr % 4 ≡ 0 = omega arith in (e, in_ram_after (word_address addr) (needable fixed.ram (ToMemory addr size value) h).1)

  module _ (A : Type 0) (sc : Script A) (a : A) (plays : answer_told (by_known all) sc ≡ Does log a) (exact : (place : Place) → new place ≡ started (known_at k w) log place)
      (may : (e : Entry) → HasItem log e → known_at k w (entry_place e) ≡ None → (i : Instr) × (may_start (turn_at s feet k w) i (entry_label e) (entry_place e) e.value ≡ true))
      (asks : Asks (IsAskable fixed.ram) sc) (asks_of_csrs : Asks AsksCsr sc) where
    pub fork : IsStopped (by_known now) sc log ⊎ AreTold (by_known now) log
    fork = stopped_or_told sc (by_known all) (by_known now) log a told_later plays

    askable : (e : Entry) → HasItem log e → IsAskable fixed.ram e.question
    askable e i = asked_in (IsAskable fixed.ram) sc (by_known all) log a asks plays e i

    named : (e : Entry) → HasItem log e → IsNamed (entry_place e)
    named e i = named_of fixed.ram e.question (askable e i)

    -- it was not known, and is not given yet
    unknown : (e : Entry) → HasItem log e → now (entry_place e) ≡ None → (known_at k w (entry_place e) ≡ None) × (given_to es (entry_place e) ≡ None)
    unknown e i none = neither (known_at k w (entry_place e)) (given_to es (entry_place e)) (sym (same (entry_place e) (named e i)) ∙ none)

    at_entry : (e : Entry) → HasItem log e → now (entry_place e) ≡ None → IsNextPlace k w new es (entry_place e)
    at_entry e i none =
        let gone = unknown e i none in
        let f = found_one log e i in
        let is : new (entry_place e) ≡ Some f.0.value = exact (entry_place e) ∙ ap (λ (o : Option ℕ). where_unknown o (found log (entry_place e))) gone.0 ∙ f.3 in
        let let_so = may f.0 f.1 (ap (λ (q : Place). known_at k w q) f.2 ∙ gone.0) in
        let parts = and_parts (ltb f.0.value (2 ^ 32)) (may_be_for (turn_at s feet k w) let_so.0 (entry_label f.0) (entry_place f.0) f.0.value) let_so.1 in
        let csrs : AsksCsr f.0.question = asked_in AsksCsr sc (by_known all) log a asks_of_csrs plays f.0 f.1 in
        record {
          value = f.0.value;
          new_is = is;
          later = gone.1;
          can = record {
            startable = startable e.question (askable e i) none;
            unknown = none;
            legal = subst (λ (q : Place). IsLegalValue q f.0.value) f.2 (legal_of (turn_at s feet k w) let_so.0 f.0.question f.0.value csrs vectors parts.1);
          };
          address = addressed_of fixed.ram e.question (askable e i);
          fits = ltb-true f.0.value (2 ^ 32) parts.0;
        }

    pub next_place : (place : Place) → IsLackedIn (by_known now) log place → IsNextPlace k w new es place
    next_place place lack = subst (λ (q : Place). IsNextPlace k w new es q) lack.at (at_entry lack.asked lack.among lack.untold)

    pub fewer : (place : Place) (v : ℕ) → IsLackedIn (by_known now) log place → unknown_in (enlarged (known_at k w) (given_to (es ++ (place, v) ∷ []))) log < unknown_in some log
    fewer place v lack =
        let gone = unknown lack.asked lack.among lack.untold in
        let more : Known = enlarged (known_at k w) (given_to (es ++ (place, v) ∷ [])) in
        let less : ((q : Place) → count_unknown (more q) ≤ count_unknown (some q)) =
        λ q. subst (λ (o : Option ℕ). count_unknown (or_else (known_at k w q) o) ≤ count_unknown (some q)) (sym (given_more es place v q)) (fewer_unknown (known_at k w q) (given_to es q) (last_given place v q)) in
        let here : last_given place v (entry_place lack.asked) ≡ Some v =
        subst (λ (q : Place). last_given q v (entry_place lack.asked) ≡ Some v) lack.at (ap (λ (b : Bool). if b then Some v else None) (same_refl (entry_place lack.asked))) in
        let given : given_to (es ++ (place, v) ∷ []) (entry_place lack.asked) ≡ Some v =
        given_more es place v (entry_place lack.asked) ∙ ap (λ (o : Option ℕ). or_else o (last_given place v (entry_place lack.asked))) gone.1 ∙ here in
        let before : some (entry_place lack.asked) ≡ None = sym (same (entry_place lack.asked) (named lack.asked lack.among)) ∙ lack.untold in
        let behind : more (entry_place lack.asked) ≡ Some v = ap (λ (o : Option ℕ). or_else o (given_to (es ++ (place, v) ∷ []) (entry_place lack.asked))) gone.0 ∙ given in
        less_unknown some more log lack.asked v lack.among less before behind

    pub more_among : (place : Place) (v : ℕ) → IsLackedIn (by_known now) log place → new place ≡ Some v → AreAmong (es ++ (place, v) ∷ []) new × CanGive k (es ++ (place, v) ∷ []) w
    more_among place v lack is =
        let next = next_place place lack in
        let value : next.value ≡ v = same_Some next.value v (sym next.new_is ∙ is) in
        (among_more new es place v among is, can_give_more k es place v w can (subst (λ (u : ℕ). CanStart k place u after) value next.can) next.address (subst (λ (u : ℕ). u < 2 ^ 32) value next.fits))

    -- all that is asked for is known or given
    none_left : AreTold (by_known now) log → (place : Place) → known_at k w place ≡ None → given_to es place ≡ None → (v : ℕ) → found log place ≡ Some v → ⊥
    none_left told place none is v says =
        let e = found_at log place v says in
        let lacks : some place ≡ None = ap (λ (o : Option ℕ). or_else o (given_to es place)) none ∙ is in
        some_none e.0.value (sym (told e.0 e.1) ∙ same (entry_place e.0) (named e.0 e.1) ∙ ap some e.2 ∙ lacks)

    pub all_listed : AreTold (by_known now) log → AreListed es new
    all_listed told place = either (given_to es place) refl
      where
        either : (o : Option ℕ) → given_to es place ≡ o → o ≡ new place
        either (Some v) is = sym (among place v is)
        either None is = sym (exact place ∙ not_started (known_at k w place) (found log place) (λ none v says. none_left told place none is v says))

-- ---- a step

module _
    (s : Setting) (feet : List Touch) (k : ℕ) (w : Whole) (new : Known) (es : List (Place × ℕ)) (log : List Entry) (change : Change) (test : IsTest w) (l : k < length w.harts) (aligned : (fixed_in (hart_of k w) w.memory).pc % 4 ≡ 0) (vectors : AreVectors s.vectors)
    (can : CanGive k es w) (among : AreAmong es new) (p : IsPlayed (turn_at s feet k w) new log change) where
  abbrev to : Whole
  to = all_given k es w

  abbrev own : Fixed
  own = fixed_in (hart_of k w) w.memory

  asks : Asks (IsAskable own.ram) (script own)
  asks = asks_places own aligned

  next_is : next_of k to ≡ play access_of (by_known (known_at k to)) (script own)
  next_is = ap (λ (f : Fixed). play access_of (by_known (known_at k to)) (script f)) (fixed_parts k es w test l can)

  way : IsStopped (by_known (known_at k to)) (script own) log ⊎ AreTold (by_known (known_at k to)) log
  way = fork s feet k w new es log test l vectors can among Change (script own) change p.plays p.exact p.may asks (asks_csrs own)

  done : AreTold (by_known (known_at k to)) log → next_of k to ≡ Does (accesses_in log) change
  done told = next_is ∙ with_accesses (script own) (by_known (known_at k to)) log change (play_same (script own) (by_known (enlarged (known_at k w) new)) (by_known (known_at k to)) log change p.plays told)

  -- where the step lacks a place, its log asks for it
  lacked : (place : Place) → next_of k to ≡ Lacks place → IsLackedIn (by_known (known_at k to)) log place
  lacked place h = elim way [
    | inl stopped ↦
        subst (λ (q : Place). IsLackedIn (by_known (known_at k to)) log q) (same_lacked stopped.place place (sym (next_is ∙ stopped.stops) ∙ h)) stopped.lacked
    | inr told ↦ absurd (done_lacks (accesses_in log) change place (sym (done told) ∙ h))
  ]

  somewhere : next_of k to ≡ Nowhere → ⊥
  somewhere h = elim way [
    | inl stopped ↦ lacks_nowhere stopped.place (sym (next_is ∙ stopped.stops) ∙ h)
    | inr told ↦ done_nowhere (accesses_in log) change (sym (done told) ∙ h)
  ]

  all_told : (xs : List Access) (change : Change) → next_of k to ≡ Does xs change → AreTold (by_known (known_at k to)) log
  all_told xs change h = elim way [
    | inl stopped ↦ absurd (done_lacks xs change stopped.place (sym h ∙ next_is ∙ stopped.stops))
    | inr told ↦ told
  ]

  pub underway : IsUnderway k w new es log
  underway = record {
    lacks = λ place h. next_place s feet k w new es log test l vectors can among Change (script own) change p.plays p.exact p.may asks (asks_csrs own) place (lacked place h);
    fewer = λ place v h is. fewer s feet k w new es log test l vectors can among Change (script own) change p.plays p.exact p.may asks (asks_csrs own) place v (lacked place h);
    among = λ place v h is. more_among s feet k w new es log test l vectors can among Change (script own) change p.plays p.exact p.may asks (asks_csrs own) place v (lacked place h) is;
    somewhere = somewhere;
    listed = λ xs other h. all_listed s feet k w new es log test l vectors can among Change (script own) change p.plays p.exact p.may asks (asks_csrs own) (all_told xs other h);
  }

pub short : (t : Turn) (new known : Known) (log : List Entry) (change : Change) → IsPlayed t new log change → unknown_in known log ≤ 10
short t new known log change p =
    let few : 0 + unknown_in known log ≤ 10 = few_asked 0 10 (script t.fixed) (by_known (enlarged t.known new)) log change known (omega arith) (script_between t.fixed) p.plays in
    omega (arith, few)
