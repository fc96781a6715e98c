-- The witnesses with a walk have candidates.
use Rattle.std.proofs.Common.{◌≡◌, ℕ, ◌+◌, ◌/◌, ◌%◌, ◌^◌, ◌<◌, ◌&&◌, ◌||◌, ◌⊎◌, Bool, true, false, eqb, if◌then◌else◌, List, [], ◌∷◌, Option, Some, None, refl, sym, ap, ◌∙◌, subst, inl, inr, arith}
use Rattle.std.specs.Prelude.{nat_lt}
use Rattle.std.proofs.lemmas.Bool.{and_from, and_parts, eq-eqb, eqb-true, lt-ltb, ne_eqb}
use Rattle.rv_isa.specs.declared.instruction.Instr.{Instr}
use Rattle.rv_isa.specs.declared.operation.Op.TheVariants.{Lw}
use Rattle.rv_isa.specs.Reading.{decoded}
use Rattle.rv_csr.specs.declared.access.CsrAccess.{CsrAccess}
use Rattle.rv_csr.specs.declared.access.CsrAccess.TheVariants.{Granted, Denied, Outside as NotModelled}
use Rattle.rv_csr.specs.declared.cause.Cause.TheVariants.{FetchPage}
use Rattle.rv_csr.specs.declared.table.Register.TheVariants.{Sstatus, Satp, Mstatus, Medeleg, Mhartid, Lazy}
use Rattle.rv_script.specs.declared.place.Place.{Place}
use Rattle.rv_script.specs.declared.place.Place.TheVariants.{Reg, Csr, Word}
use Rattle.rv_script.specs.Bytes.{word_address}
use Rattle.rv_script.specs.Lists.{HasItem}
use Rattle.rv_script.specs.Script.{Label, Label.FetchRoot, Label.FetchSecond, Label.DataRoot, Label.DataSecond, Question, Question.OfMemory, place_of, told as told_of, Script, Script.Ask, Script.Done}
use Rattle.rv_script.specs.Folds.{Answer, Answer.Does, Entry}
use Rattle.rv_script.specs.Logs.{Coherent, answer, answer_told, by_answers, entry_label, entry_place, if_new, labelled, new_value, value_or}
use Rattle.rv_script.proofs.Plays.{after, asks}
use Rattle.sv_walk.specs.declared.entry.Kind.{Kind}
use Rattle.sv_walk.specs.declared.entry.Kind.TheVariants.{Fetch as ForFetch, Load as ForLoad, Store as ForStore}
use Rattle.sv_walk.specs.declared.entry.View.{View}
use Rattle.sv_walk.specs.Entry.{access_cause, is_closed, page_cause}
use Rattle.sv_walk.specs.Translation.{Reached, At, Fails, arrived, translated, from_pointer, from_root, root_address, root_label, second_address, second_end, second_label}
use Rattle.addr_rows.specs.Walks.{EntryRow, end_at, entry_answers}
use Rattle.rv_hart.specs.Machine.{at_address, data_view, fetch_view, fetched_at, instruction, load_at, load_row, script}
use Rattle.rv_hart.specs.Privileged.{trap}
use Rattle.rv_isa.specs.Numbers.{op_numbered, op_number}
use Rattle.fd_prob.specs.declared.slot.Slot.TheVariants as slots
use Rattle.rv_mem.specs.Frames.{in_frames}
use Rattle.leaf_link.specs.Turns.{is_second_form, may_start}
use Rattle.leaf_link.specs.Values.{Values, fixed_value, given_by, new_places}
use Rattle.leaf_link.specs.KindLaws.{IsPosed}
use Rattle.leaf_link.specs.Reaching.{AreRows, Walks}
use Rattle.leaf_link.specs.Fetches.{fetch_places, fetch_script}
use Rattle.leaf_link.specs.FetchRows.{AreFetchRows, FetchRow, FetchWalks, entry_values}
use Rattle.leaf_link.specs.Witnesses.{IsPossible, load_leaf}
use Rattle.leaf_link.specs.WalkWitnesses.{IsFaultPossible, IsFetchPossible, fetch_page_rows, fetch_turn, invalid_page, load_fetch, load_turn, new_page, page, page_fault, page_rows, paged_known, pointer}
use Rattle.leaf_link.proofs.Front.{same_done}
use Rattle.leaf_link.proofs.FetchFits.{fetch_problems_are_exact}
use Rattle.leaf_link.proofs.FaultFits.{fault_problems_are_exact}
use Rattle.leaf_link.proofs.Possible.{all_in, candidate_of, fits_by, is_in_atom, plain_in}

-- WHAT IS KNOWN
pub words : (place : Place) (v : ℕ) → paged_known place ≡ Some v → v < 2 ^ 32
words (Reg n) v h = go (eqb n 0) (eqb n 1) h
  where
    go : (b c : Bool) → (if b then Some 0 else (if c then Some 0x1100 else None)) ≡ Some v → v < 2 ^ 32
    go true c h = let z : 0 ≡ v = cc in subst (λ (n : ℕ). n < 2 ^ 32) z (omega arith)
    go false true h = let z : 0x1100 ≡ v = cc in subst (λ (n : ℕ). n < 2 ^ 32) z (omega arith)
    go false false h = absurd (cc)
words (Csr addr) v h = absurd (cc)
words (Word addr) v h = go (eqb (addr / 4096) 0x8_0001) (eqb addr 0x8000_2000) h
  where
    go : (b c : Bool) → (if b then Some pointer else (if c then Some page else None)) ≡ Some v → v < 2 ^ 32
    go true c h = let z : pointer ≡ v = cc in subst (λ (n : ℕ). n < 2 ^ 32) z (omega arith)
    go false true h = let z : page ≡ v = cc in subst (λ (n : ℕ). n < 2 ^ 32) z (omega arith)
    go false false h = absurd (cc)

pub fixed : (access : CsrAccess) → fixed_value load_turn.fixed access < 2 ^ 32
fixed (Granted Sstatus) = omega arith
fixed (Granted Satp) = omega arith
fixed (Granted Mstatus) = omega arith
fixed (Granted Medeleg) = omega arith
fixed (Granted Mhartid) = omega arith
fixed (Granted (Lazy register)) = omega arith
fixed Denied = omega arith
fixed NotModelled = omega arith

posed : IsPosed load_turn load_fetch 0x8000_0000 (load_leaf 1)
unfolding translated from_root from_pointer second_end op_number all_in is_in_atom
posed = record { fetched = record { translates = refl; aligned = refl }; words = words; fixed = fixed; plain = plain_in (load_leaf 1) refl }

-- THE TWO QUESTIONS OF AN ADDRESS
abbrev pub view : View
view = data_view load_turn.fixed

-- the index of the second entry
abbrev pub index : ℕ → ℕ
index ea = ea / 2 ^ 12 % 2 ^ 10

abbrev pub root_question : Kind → ℕ → Question
root_question kind ea = OfMemory (root_label kind) (root_address view ea) 4

abbrev pub second_question : Kind → ℕ → Question
second_question kind ea = OfMemory (second_label kind) (second_address ea pointer) 4

pub index_small : (ea : ℕ) → index ea < 1024
index_small ea = omega arith

root_small : (ea : ℕ) → ea < 2 ^ 32 → ea / 2 ^ 22 < 1024
root_small ea less = omega (arith, less)

pub root_known : (kind : Kind) (ea : ℕ) → ea < 2 ^ 32 → paged_known (place_of (root_question kind ea)) ≡ Some pointer
root_known kind ea less = ap (λ (b : Bool). if b then Some pointer else (if eqb (word_address (root_address view ea)) 0x8000_2000 then Some page else None)) (eq-eqb _ _ (let s = root_small ea less in omega (arith, s)))

pub second_known : (kind : Kind) (ea : ℕ) → paged_known (place_of (second_question kind ea)) ≡ (if eqb (index ea) 0 then Some page else None)
second_known kind ea =
    ap (λ (b : Bool). if b then Some pointer else (if eqb (word_address (second_address ea pointer)) 0x8000_2000 then Some page else None)) (ne_eqb _ _ (λ same. let s = index_small ea in omega (arith, s, same)))
    ∙ go (eqb (index ea) 0) refl
  where
    go : (b : Bool) → eqb (index ea) 0 ≡ b → (if eqb (word_address (second_address ea pointer)) 0x8000_2000 then Some page else None) ≡ (if b then Some page else None)
    go true e = ap (λ (c : Bool). if c then Some page else None) (eq-eqb _ _ (let z = eqb-true (index ea) 0 e in omega (arith, z)))
    go false e = ap (λ (c : Bool). if c then Some page else None) (ne_eqb _ _ (λ same. let z : index ea ≡ 0 = omega (arith, same) in let y = eq-eqb (index ea) 0 z in absurd (cc)))

pub root_told : (kind : Kind) (ea : ℕ) → told_of (root_question kind ea) pointer ≡ pointer
root_told kind ea = ap (λ (n : ℕ). pointer / 256 ^ n % 256 ^ 4) (let z : root_address view ea % 4 ≡ 0 = omega arith in z)

pub second_told : (kind : Kind) (ea : ℕ) → told_of (second_question kind ea) page ≡ page
second_told kind ea = ap (λ (n : ℕ). page / 256 ^ n % 256 ^ 4) (let z : second_address ea pointer % 4 ≡ 0 = omega arith in z)

-- THE WALK
abbrev pub walked : Kind → (Label → ℕ) → ℕ → List Entry
walked kind given ea = answer paged_known given (root_question kind ea) ∷ answer paged_known given (second_question kind ea) ∷ []

asks_root : (kind : Kind) (ea : ℕ) → ea < 2 ^ 32 → translated load_turn.fixed.ram view kind ea ≡ Ask (root_question kind ea) (λ root. from_root load_turn.fixed.ram view kind ea root)
unfolding translated
asks_root kind ea less =
    ap (λ (b : Bool). if b && true then Ask (root_question kind ea) (λ root. from_root load_turn.fixed.ram view kind ea root) else Done (Fails (access_cause kind))) (lt-ltb (root_address view ea) (2 ^ 32) (let s = root_small ea less in omega (arith, s)))

asks_second : (kind : Kind) (ea : ℕ) → from_root load_turn.fixed.ram view kind ea pointer ≡ Ask (second_question kind ea) (λ second. Done (second_end load_turn.fixed.ram view kind ea second))
unfolding from_root from_pointer
asks_second kind ea =
    ap (λ (b : Bool). if b && true then Ask (second_question kind ea) (λ second. Done (second_end load_turn.fixed.ram view kind ea second)) else Done (Fails (access_cause kind))) (lt-ltb (second_address ea pointer) (2 ^ 32) (let s = index_small ea in omega (arith, s)))

pub walk_is : (kind : Kind) (given : Label → ℕ) (ea : ℕ) → ea < 2 ^ 32
    → answer_told (by_answers paged_known given) (translated load_turn.fixed.ram view kind ea)
    ≡ Does (walked kind given ea) (second_end load_turn.fixed.ram view kind ea (told_of (second_question kind ea) (value_or (paged_known (place_of (second_question kind ea))) (given (second_label kind)))))
walk_is kind given ea less =
    let tell = by_answers paged_known given in
    let root = root_question kind ea in
    let second = second_question kind ea in
    let value : told_of root (value_or (paged_known (place_of root)) (given (root_label kind))) ≡ pointer = ap (λ (o : Option ℕ). told_of root (value_or o (given (root_label kind)))) (root_known kind ea less) ∙ root_told kind ea in
    ap (λ (s : Script Reached). answer_told tell s) (asks_root kind ea less)
    ∙ asks paged_known given root (λ v. from_root load_turn.fixed.ram view kind ea v)
    ∙ ap (λ (v : ℕ). after (answer paged_known given root) (answer_told tell (from_root load_turn.fixed.ram view kind ea v))) value
    ∙ ap (λ (s : Script Reached). after (answer paged_known given root) (answer_told tell s)) (asks_second kind ea)
    ∙ ap (λ (r : Answer Entry Reached). after (answer paged_known given root) r) (asks paged_known given second (λ v. Done (second_end load_turn.fixed.ram view kind ea v)))

-- the page lets loads and stores of S through
page_open : (kind : Kind) → is_closed view kind page ≡ false
page_open ForFetch = refl
page_open ForLoad = refl
page_open ForStore = refl

abbrev pub led : ℕ → ℕ
led ea = 0x8000_0000 + ea % 2 ^ 12

pub page_end : (kind : Kind) (ea : ℕ) → second_end load_turn.fixed.ram view kind ea page ≡ At (led ea)
unfolding second_end
page_end kind ea =
    ap (λ (b : Bool). if b then Fails (page_cause kind) else arrived load_turn.fixed.ram kind (led ea)) (page_open kind)
    ∙ ap (λ (b : Bool). if b && true then At (led ea) else Fails (access_cause kind)) (lt-ltb (led ea) (2 ^ 32) (omega arith))

-- ROWS
abbrev pub second_value : Kind → ℕ → ℕ → ℕ
second_value kind ea second = value_or (paged_known (place_of (second_question kind ea))) second

-- the second entry is the page, known or new
value_page : (kind : Kind) (ea second : ℕ) → second ≡ new_page ea → second_value kind ea second ≡ page
value_page kind ea second h = ap (λ (o : Option ℕ). value_or o second) (second_known kind ea) ∙ go (eqb (index ea) 0) refl
  where
    go : (b : Bool) → eqb (index ea) 0 ≡ b → value_or (if b then Some page else None) second ≡ page
    go true e = refl
    go false e = h ∙ ap (λ (c : Bool). if c then 0 else page) e

end_is : (kind : Kind) (ea second : ℕ) → second ≡ new_page ea → second_end load_turn.fixed.ram view kind ea (told_of (second_question kind ea) (second_value kind ea second)) ≡ At (led ea)
end_is kind ea second h =
    ap (λ (v : ℕ). second_end load_turn.fixed.ram view kind ea (told_of (second_question kind ea) v)) (value_page kind ea second h)
    ∙ ap (λ (v : ℕ). second_end load_turn.fixed.ram view kind ea v) (second_told kind ea)
    ∙ page_end kind ea

-- the first new value is 0, and the second one is what it is
pub first_new : (kind : Kind) (given : Label → ℕ) (ea : ℕ) → ea < 2 ^ 32 → root_label kind ≡ DataRoot → new_value paged_known (labelled (walked kind given ea) DataRoot) ≡ 0
first_new ForFetch given ea less h = absurd (cc)
first_new ForLoad given ea less h = ap (λ (o : Option ℕ). if_new o (value_or o (given DataRoot))) (root_known ForLoad ea less)
first_new ForStore given ea less h = ap (λ (o : Option ℕ). if_new o (value_or o (given DataRoot))) (root_known ForStore ea less)

pub second_new : (kind : Kind) (first second ea : ℕ) → root_label kind ≡ DataRoot
    → new_value paged_known (labelled (walked kind (entry_answers first second) ea) DataSecond) ≡ if_new (paged_known (place_of (second_question kind ea))) (second_value kind ea second)
second_new ForFetch first second ea h = absurd (cc)
second_new ForLoad first second ea h = refl
second_new ForStore first second ea h = refl

pub given_second : (kind : Kind) (first second : ℕ) → root_label kind ≡ DataRoot → entry_answers first second (second_label kind) ≡ second
given_second ForFetch first second h = absurd (cc)
given_second ForLoad first second h = refl
given_second ForStore first second h = refl

-- the second entry is one of the table frame
pub in_table : (kind : Kind) (ea : ℕ) → in_frames load_turn.tables (word_address (second_address ea pointer)) ≡ true
in_table kind ea = ap (λ (b : Bool). b || false) (eq-eqb _ _ (let s = index_small ea in omega (arith, s)))

pub twice : (b : Bool) → ((b || false) || false) ≡ true → b ≡ true
twice true h = refl
twice false h = h

form_is : (v : ℕ) → is_second_form load_turn v ≡ true → v ≡ page
form_is v h = sym (eqb-true page v (twice (eqb page v) h))

may_second : (kind : Kind) (i : Instr) (ea v : ℕ) → root_label kind ≡ DataRoot → v ≡ page → may_start load_turn i (second_label kind) (place_of (second_question kind ea)) v ≡ true
may_second ForFetch i ea v h is = absurd (cc)
may_second ForLoad i ea v h is = subst (λ (n : ℕ). may_start load_turn i DataSecond (place_of (second_question ForLoad ea)) n ≡ true) (sym is) (ap (λ (b : Bool). b && true) (in_table ForLoad ea))
may_second ForStore i ea v h is = subst (λ (n : ℕ). may_start load_turn i DataSecond (place_of (second_question ForStore ea)) n ≡ true) (sym is) (ap (λ (b : Bool). b && true) (in_table ForStore ea))

-- and it is new only as the page
second_may : (kind : Kind) (i : Instr) (ea v : ℕ) → root_label kind ≡ DataRoot → may_start load_turn i (second_label kind) (place_of (second_question kind ea)) v ≡ true → v ≡ page
second_may ForFetch i ea v h may = absurd (cc)
second_may ForLoad i ea v h may = form_is v (and_parts _ _ (and_parts _ _ may).1).1
second_may ForStore i ea v h may = form_is v (and_parts _ _ (and_parts _ _ may).1).1

pub coherent_at : (kind : Kind) (given : Label → ℕ) (ea : ℕ) → paged_known (place_of (root_question kind ea)) ≡ Some pointer → Coherent paged_known (walked kind given ea)
coherent_at kind given ea root e f i j none place = elim i [
  | inl q ↦ let gone : paged_known (place_of (root_question kind ea)) ≡ None = ap (λ (z : Entry). paged_known (entry_place z)) q ∙ none in absurd (cc)
  | inr i ↦ elim i [
    | inl q ↦ elim j [
      | inl r ↦ let gone : paged_known (place_of (root_question kind ea)) ≡ None = ap (λ (z : Entry). paged_known (entry_place z)) r ∙ ap paged_known (sym place) ∙ none in absurd (cc)
      | inr j ↦ elim j [
        | inl r ↦ (λ h. ap entry_label (sym q ∙ r), ap (λ (z : Entry). z.value) (sym q ∙ r))
        | inr j ↦ absurd j
      ]
    ]
    | inr i ↦ absurd i
  ]
]

abbrev pub some_instr : Instr
some_instr = record { op = Lw; rd = 0; rs1 = 0; rs2 = 0; imm = 0; csr = 0 }

-- the second value is the one of the row
second_is : (kind : Kind) (ea first second : ℕ) → root_label kind ≡ DataRoot → second ≡ if_new (paged_known (place_of (second_question kind ea))) (second_value kind ea second)
    → (paged_known (place_of (second_question kind ea)) ≡ None → may_start load_turn some_instr (second_label kind) (place_of (second_question kind ea)) (second_value kind ea (entry_answers first second (second_label kind))) ≡ true)
    → second ≡ new_page ea
second_is kind ea first second is_data is may = go (eqb (index ea) 0) refl (second_known kind ea)
  where
    go : (b : Bool) → eqb (index ea) 0 ≡ b → paged_known (place_of (second_question kind ea)) ≡ (if b then Some page else None) → second ≡ new_page ea
    go true e k = is ∙ ap (λ (o : Option ℕ). if_new o (second_value kind ea second)) k ∙ ap (λ (c : Bool). if c then 0 else page) (sym e)
    go false e k =
        let value : second_value kind ea (entry_answers first second (second_label kind)) ≡ second = ap (λ (o : Option ℕ). value_or o (entry_answers first second (second_label kind))) k ∙ given_second kind first second is_data in
        sym value ∙ second_may kind some_instr ea (second_value kind ea (entry_answers first second (second_label kind))) is_data (may k) ∙ ap (λ (c : Bool). if c then 0 else page) (sym e)

page_walks : (kind : Kind) (ea first second : ℕ) → root_label kind ≡ DataRoot → ea < 2 ^ 32 → first ≡ 0 → second ≡ new_page ea → Walks load_turn kind ea first second (walked kind (entry_answers first second) ea) (At (led ea))
page_walks kind ea first second is_data less f s =
    let given : Label → ℕ = entry_answers first second in
    let root : paged_known (place_of (root_question kind ea)) ≡ Some pointer = root_known kind ea less in
    let value : second_value kind ea (given (second_label kind)) ≡ page = ap (λ (n : ℕ). second_value kind ea n) (given_second kind first second is_data) ∙ value_page kind ea second s in
    record {
      plays = walk_is kind given ea less
          ∙ ap (λ (n : ℕ). Does (walked kind given ea) (second_end load_turn.fixed.ram view kind ea (told_of (second_question kind ea) (second_value kind ea n)))) (given_second kind first second is_data)
          ∙ ap (λ (r : Reached). Does (walked kind given ea) r) (end_is kind ea second s);
      may = λ i e j none. elim j [
        | inl q ↦ let gone : paged_known (place_of (root_question kind ea)) ≡ None = ap (λ (z : Entry). paged_known (entry_place z)) q ∙ none in absurd (cc)
        | inr j ↦ elim j [
          | inl q ↦ subst (λ (z : Entry). may_start load_turn i (entry_label z) (entry_place z) z.value ≡ true) q (may_second kind i ea (second_value kind ea (given (second_label kind))) is_data value)
          | inr j ↦ absurd j
        ]
      ];
      coherent = coherent_at kind given ea root;
      first_is = f ∙ sym (first_new kind given ea less is_data);
      second_is = s ∙ sym (second_new kind first second ea is_data ∙ ap (λ (o : Option ℕ). if_new o (value_or o second)) (second_known kind ea) ∙ new_is (eqb (index ea) 0) refl);
    }
  where
    new_is : (b : Bool) → eqb (index ea) 0 ≡ b → if_new (if b then Some page else None) (value_or (if b then Some page else None) second) ≡ new_page ea
    new_is true e = ap (λ (c : Bool). if c then 0 else page) (sym e)
    new_is false e = s

pub pages_are_rows : (kind : Kind) → root_label kind ≡ DataRoot → AreRows load_turn (λ ea. true) kind page_rows
pages_are_rows kind is_data = record {
  sound = λ row i ea first second less h. elim i [
    | inl q ↦
        let parts = and_parts (eqb first 0) (eqb second (new_page ea)) (ap (λ (r : EntryRow). r.holds ea first second) q ∙ h) in (
          walked kind (entry_answers first second) ea,
          subst (λ (r : EntryRow). Walks load_turn kind ea first second (walked kind (entry_answers first second) ea) (end_at r.end ea)) q
              (page_walks kind ea first second is_data less (eqb-true first 0 parts.0) (eqb-true second (new_page ea) parts.1)),
        )
    | inr j ↦ absurd j
  ];
  complete = λ ea first second log end less page_is w.
      let given : Label → ℕ = entry_answers first second in
      let same = same_done (walked kind given ea) log _ end (sym (walk_is kind given ea less) ∙ w.plays) in
      let f : first ≡ 0 = w.first_is ∙ ap (λ (l : List Entry). new_value paged_known (labelled l DataRoot)) (sym same.0) ∙ first_new kind given ea less is_data in
      let s : second ≡ new_page ea = second_is kind ea first second is_data
      (w.second_is ∙ ap (λ (l : List Entry). new_value paged_known (labelled l DataSecond)) (sym same.0) ∙ second_new kind first second ea is_data)
      (λ none. w.may some_instr (answer paged_known given (second_question kind ea)) (subst (λ (l : List Entry). HasItem l (answer paged_known given (second_question kind ea))) same.0 (inr (inl refl))) none) in (
        _,
        inl refl,
        and_from _ _ (eq-eqb first 0 f) (eq-eqb second (new_page ea) s),
        sym (ap (λ (n : ℕ). second_end load_turn.fixed.ram view kind ea (told_of (second_question kind ea) (second_value kind ea n))) (given_second kind first second is_data) ∙ end_is kind ea second s) ∙ same.1,
      );
}

-- THE LOAD
abbrev load_values : Values
load_values slots.Op = op_number Lw
load_values slots.Rd = 5
load_values slots.Rs1 = 1
load_values slots.Ea = 0x1100
load_values slots.A = 0x1100
load_values slots.SecondPte = page
load_values slots.DataWord = 7
load_values _ = 0

pub load_possible : IsPossible load_turn load_fetch 0x8000_0000 (load_leaf 1) (Word 0x8000_2004) page
unfolding script at_address translated from_root from_pointer second_end fetched_at instruction decoded load_row load_at op_number op_numbered
load_possible = record {
  posed = posed;
  sources = λ v. refl;
  new = new_places load_turn.fixed load_turn.known load_values;
  candidate = candidate_of load_turn load_fetch 0x8000_0000 (load_leaf 1) (λ ea. true) page_rows page_rows posed (λ ea less tested. refl) (pages_are_rows ForLoad refl) (pages_are_rows ForStore refl) Lw load_values (inl (fits_by _ _ refl refl refl));
  untouched = refl;
  starts = refl;
}

-- FETCHES
abbrev fetched_entries : ℕ → List Entry
fetched_entries second = record { question = OfMemory FetchRoot 0x8000_1800 4; value = pointer } ∷ record { question = OfMemory FetchSecond 0x8000_2004 4; value = second } ∷ []

abbrev fetch_end : ℕ → Reached
fetch_end second = second_end fetch_turn.fixed.ram (fetch_view fetch_turn.fixed) ForFetch 0x8000_1000 (told_of (OfMemory FetchSecond 0x8000_2004 4) second)

fetch_plays : (first second : ℕ) → answer_told (by_answers fetch_turn.known (given_by (entry_values first second))) (fetch_script fetch_turn) ≡ Does (fetched_entries second) (fetch_end second)
unfolding translated from_root from_pointer
fetch_plays first second = refl

page_fetched : fetch_end page ≡ At 0x8000_0000
unfolding second_end
page_fetched = refl

page_failed : fetch_end invalid_page ≡ Fails FetchPage
unfolding second_end
page_failed = refl

fetch_coherent : (second : ℕ) → Coherent paged_known (fetched_entries second)
fetch_coherent second e f i j none place = elim i [
  | inl q ↦ let gone : Some pointer ≡ None = ap (λ (z : Entry). paged_known (entry_place z)) q ∙ none in absurd (cc)
  | inr i ↦ elim i [
    | inl q ↦ elim j [
      | inl r ↦ let gone : Some pointer ≡ None = ap (λ (z : Entry). paged_known (entry_place z)) r ∙ ap paged_known (sym place) ∙ none in absurd (cc)
      | inr j ↦ elim j [
        | inl r ↦ (λ h. ap entry_label (sym q ∙ r), ap (λ (z : Entry). z.value) (sym q ∙ r))
        | inr j ↦ absurd j
      ]
    ]
    | inr i ↦ absurd i
  ]
]

fetch_walks : (first second v : ℕ) (end : Reached) → first ≡ 0 → second ≡ v → ((i : Instr) → may_start fetch_turn i FetchSecond (Word 0x8000_2004) v ≡ true) → fetch_end v ≡ end → FetchWalks fetch_turn first second (fetched_entries second) end
fetch_walks first second v end f s may e = record {
  plays = fetch_plays first second ∙ ap (λ (r : Reached). Does (fetched_entries second) r) (ap fetch_end s ∙ e);
  may = λ i e j none. elim j [
    | inl q ↦ let gone : Some pointer ≡ None = ap (λ (z : Entry). paged_known (entry_place z)) q ∙ none in absurd (cc)
    | inr j ↦ elim j [
      | inl q ↦ subst (λ (z : Entry). may_start fetch_turn i (entry_label z) (entry_place z) z.value ≡ true) q (subst (λ (n : ℕ). may_start fetch_turn i FetchSecond (Word 0x8000_2004) n ≡ true) (sym s) (may i))
      | inr j ↦ absurd j
    ]
  ];
  coherent = fetch_coherent second;
  first_is = f;
  second_is = refl;
}

-- the new entry is one of two
either : (b c : Bool) → ((b || (c || false)) || false) ≡ true → (b ≡ true) ⊎ (c ≡ true)
either true c h = inl refl
either false true h = inr refl
either false false h = inl h

abbrev fetch_row : FetchRow
fetch_row = record { holds = λ first second. eqb first 0 && eqb second page; end = At 0x8000_0000 }

abbrev fault_row : FetchRow
fault_row = record { holds = λ first second. eqb first 0 && eqb second invalid_page; end = Fails FetchPage }

pub fetches_are_rows : AreFetchRows fetch_turn fetch_page_rows
fetches_are_rows = record {
  sound = λ row i first second h. elim i [
    | inl q ↦ let parts = and_parts (eqb first 0) (eqb second page) (ap (λ (r : FetchRow). r.holds first second) q ∙ h) in
        (fetched_entries second, subst (λ (r : FetchRow). FetchWalks fetch_turn first second (fetched_entries second) r.end) q (fetch_walks first second page (At 0x8000_0000) (eqb-true first 0 parts.0) (eqb-true second page parts.1) (λ i. refl) page_fetched))
    | inr i ↦ elim i [
      | inl q ↦ let parts = and_parts (eqb first 0) (eqb second invalid_page) (ap (λ (r : FetchRow). r.holds first second) q ∙ h) in
          (fetched_entries second, subst (λ (r : FetchRow). FetchWalks fetch_turn first second (fetched_entries second) r.end) q (fetch_walks first second invalid_page (Fails FetchPage) (eqb-true first 0 parts.0) (eqb-true second invalid_page parts.1) (λ i. refl) page_failed))
      | inr i ↦ absurd i
    ]
  ];
  complete = λ first second log end w.
      let same = same_done (fetched_entries second) log (fetch_end second) end (sym (fetch_plays first second) ∙ w.plays) in
      let f : first ≡ 0 = w.first_is ∙ ap (λ (l : List Entry). new_value paged_known (labelled l FetchRoot)) (sym same.0) in
      let entry : Entry = record { question = OfMemory FetchSecond 0x8000_2004 4; value = second } in
      let may : (nat_lt second (2 ^ 32) && (in_frames fetch_turn.tables 0x8000_2004 && is_second_form fetch_turn second)) ≡ true = w.may some_instr entry (subst (λ (l : List Entry). HasItem l entry) same.0 (inr (inl refl))) refl in
      let form : is_second_form fetch_turn second ≡ true = (and_parts (in_frames fetch_turn.tables 0x8000_2004) (is_second_form fetch_turn second) (and_parts (nat_lt second (2 ^ 32)) (in_frames fetch_turn.tables 0x8000_2004 && is_second_form fetch_turn second) may).1).1 in
      elim (either (eqb page second) (eqb invalid_page second) form) [
        | inl h ↦ let s : second ≡ page = sym (eqb-true page second h) in (fetch_row, inl refl, and_from _ _ (eq-eqb first 0 f) (eq-eqb second page s), sym (ap fetch_end s ∙ page_fetched) ∙ same.1)
        | inr h ↦ let s : second ≡ invalid_page = sym (eqb-true invalid_page second h) in (fault_row, inr (inl refl), and_from _ _ (eq-eqb first 0 f) (eq-eqb second invalid_page s), sym (ap fetch_end s ∙ page_failed) ∙ same.1)
      ];
}

pub fetch_possible : IsFetchPossible
unfolding translated from_root from_pointer second_end
fetch_possible = record {
  new = fetch_places fetch_turn (entry_values 0 page);
  candidate = (fetch_problems_are_exact fetch_turn fetch_page_rows fetches_are_rows).into (entry_values 0 page) (inl (fits_by _ _ refl refl refl));
  starts = refl;
}

abbrev pub fault_answers : Values
fault_answers slots.SecondPte = invalid_page
fault_answers slots.Vector = 0x8000_0200
fault_answers _ = 0

pub fault_possible : IsFaultPossible
unfolding script at_address translated from_root from_pointer second_end trap
fault_possible = record {
  new = new_places fetch_turn.fixed fetch_turn.known fault_answers;
  candidate = (fault_problems_are_exact fetch_turn page_fault fetch_page_rows fetches_are_rows).into fault_answers (inl (fits_by _ _ refl refl refl));
  starts = refl;
  vector = refl;
}
