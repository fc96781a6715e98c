-- The witnesses whose data access meets a page fault have candidates.
use Rattle.std.proofs.Common.{◌≡◌, ℕ, ◌/◌, ◌%◌, ◌^◌, ◌<◌, ◌&&◌, Bool, true, false, eqb, not, if◌then◌else◌, List, Option, Some, None, refl, sym, ap, ◌∙◌, subst, inl, inr, arith}
use Rattle.std.proofs.lemmas.Bool.{and_from, and_parts, eq-eqb, eqb-true}
use Rattle.rv_isa.specs.declared.instruction.Instr.{Instr}
use Rattle.rv_isa.specs.declared.operation.Op.TheVariants.{Lw, Sw}
use Rattle.rv_isa.specs.Numbers.{op_numbered, op_number}
use Rattle.rv_isa.specs.Reading.{decoded}
use Rattle.rv_script.specs.Lists.{HasItem}
use Rattle.rv_script.specs.declared.place.Place.TheVariants.{Word}
use Rattle.rv_script.specs.Script.{Label, Label.DataRoot, Label.DataSecond, place_of, told as told_of}
use Rattle.rv_script.specs.Folds.{Answer.Does, Entry}
use Rattle.rv_script.specs.Logs.{answer, entry_label, entry_place, if_new, labelled, new_value, value_or}
use Rattle.sv_walk.specs.declared.entry.Kind.{Kind}
use Rattle.sv_walk.specs.declared.entry.Kind.TheVariants.{Fetch as ForFetch, Load as ForLoad, Store as ForStore}
use Rattle.sv_walk.specs.Entry.{is_closed, page_cause}
use Rattle.sv_walk.specs.Translation.{Reached, At, Fails, arrived, translated, from_pointer, from_root, root_label, second_address, second_end, second_label}
use Rattle.addr_rows.specs.Walks.{EntryRow, end_at, entry_answers}
use Rattle.rv_hart.specs.Machine.{at_address, fetched_at, instruction, load_at, load_row, script, store_at, store_row}
use Rattle.rv_hart.specs.Privileged.{trap}
use Rattle.fd_prob.specs.declared.slot.Slot.TheVariants as slots
use Rattle.leaf_link.specs.Turns.{is_second_form, may_start}
use Rattle.leaf_link.specs.Values.{Values, new_places}
use Rattle.leaf_link.specs.KindLaws.{IsPosed}
use Rattle.leaf_link.specs.Reaching.{AreRows, Walks}
use Rattle.leaf_link.specs.Witnesses.{IsPossible, failing_load_leaf, failing_store_leaf}
use Rattle.leaf_link.specs.WalkWitnesses.{failing_rows, failing_turn, invalid_page, is_mapped, load_fetch, mapped_row, page, paged_known, pointer, unmapped_row}
use Rattle.leaf_link.proofs.Front.{same_done}
use Rattle.leaf_link.proofs.Possible.{all_in, candidate_of, fits_by, is_in_atom, plain_in}
use Rattle.leaf_link.proofs.WalkPossible.{coherent_at, first_new, fixed, given_second, in_table, index, led, page_end, root_known, root_question, second_known, second_new, second_question, second_told, second_value, some_instr, twice, view, walk_is, walked, words}

-- an entry with V clear lets nothing through
closed : (kind : Kind) → is_closed view kind invalid_page ≡ true
closed ForFetch = refl
closed ForLoad = refl
closed ForStore = refl

invalid_end : (kind : Kind) (ea : ℕ) → second_end failing_turn.fixed.ram view kind ea invalid_page ≡ Fails (page_cause kind)
unfolding second_end
invalid_end kind ea = ap (λ (b : Bool). if b then Fails (page_cause kind) else arrived failing_turn.fixed.ram kind (led ea)) (closed kind)

invalid_told : (kind : Kind) (ea : ℕ) → told_of (second_question kind ea) invalid_page ≡ invalid_page
invalid_told kind ea = ap (λ (n : ℕ). invalid_page / 256 ^ n % 256 ^ 4) (let z : second_address ea pointer % 4 ≡ 0 = omega arith in z)

-- ---- what is known or new

new_entry : Bool → ℕ
new_entry true = 0
new_entry false = invalid_page

entry_value : Bool → ℕ
entry_value true = page
entry_value false = invalid_page

entry_end : Bool → Kind → ℕ → Reached
entry_end true kind ea = At (led ea)
entry_end false kind ea = Fails (page_cause kind)

known_by_test : Bool → Option ℕ
known_by_test b = if b then Some page else None

value_is : (b : Bool) (second : ℕ) → second ≡ new_entry b → value_or (known_by_test b) second ≡ entry_value b
unfolding new_entry entry_value known_by_test
value_is true second h = refl
value_is false second h = h

end_is : (b : Bool) (kind : Kind) (ea : ℕ) → second_end failing_turn.fixed.ram view kind ea (told_of (second_question kind ea) (entry_value b)) ≡ entry_end b kind ea
unfolding entry_value entry_end
end_is true kind ea = ap (λ (v : ℕ). second_end failing_turn.fixed.ram view kind ea v) (second_told kind ea) ∙ page_end kind ea
end_is false kind ea = ap (λ (v : ℕ). second_end failing_turn.fixed.ram view kind ea v) (invalid_told kind ea) ∙ invalid_end kind ea

new_is : (b : Bool) (second : ℕ) → second ≡ new_entry b → if_new (known_by_test b) (value_or (known_by_test b) second) ≡ new_entry b
unfolding new_entry known_by_test
new_is true second h = refl
new_is false second h = h

form_is : (v : ℕ) → is_second_form failing_turn v ≡ true → v ≡ invalid_page
form_is v h = sym (eqb-true invalid_page v (twice (eqb invalid_page v) h))

may_second : (kind : Kind) (i : Instr) (ea v : ℕ) → root_label kind ≡ DataRoot → v ≡ invalid_page → may_start failing_turn i (second_label kind) (place_of (second_question kind ea)) v ≡ true
may_second ForFetch i ea v h is = absurd (cc)
may_second ForLoad i ea v h is = subst (λ (n : ℕ). may_start failing_turn i DataSecond (place_of (second_question ForLoad ea)) n ≡ true) (sym is) (ap (λ (b : Bool). b && true) (in_table ForLoad ea))
may_second ForStore i ea v h is = subst (λ (n : ℕ). may_start failing_turn i DataSecond (place_of (second_question ForStore ea)) n ≡ true) (sym is) (ap (λ (b : Bool). b && true) (in_table ForStore ea))

second_may : (kind : Kind) (i : Instr) (ea v : ℕ) → root_label kind ≡ DataRoot → may_start failing_turn i (second_label kind) (place_of (second_question kind ea)) v ≡ true → v ≡ invalid_page
second_may ForFetch i ea v h may = absurd (cc)
second_may ForLoad i ea v h may = form_is v (and_parts _ _ (and_parts _ _ may).1).1
second_may ForStore i ea v h may = form_is v (and_parts _ _ (and_parts _ _ may).1).1

-- ---- what a row holds, by whether the address is mapped

module _ (kind : Kind) (is_data : root_label kind ≡ DataRoot) (ea : ℕ) (less : ea < 2 ^ 32) (b : Bool) (mapped : eqb (index ea) 0 ≡ b) where
  known : paged_known (place_of (second_question kind ea)) ≡ known_by_test b
  unfolding known_by_test
  known = second_known kind ea ∙ ap (λ (c : Bool). if c then Some page else None) mapped

  reached : (second : ℕ) → second ≡ new_entry b → second_end failing_turn.fixed.ram view kind ea (told_of (second_question kind ea) (second_value kind ea second)) ≡ entry_end b kind ea
  reached second s =
      ap (λ (v : ℕ). second_end failing_turn.fixed.ram view kind ea (told_of (second_question kind ea) v)) (ap (λ (o : Option ℕ). value_or o second) known ∙ value_is b second s)
      ∙ end_is b kind ea

  walks : (first second : ℕ) → first ≡ 0 → second ≡ new_entry b → Walks failing_turn kind ea first second (walked kind (entry_answers first second) ea) (entry_end b kind ea)
  unfolding known_by_test entry_value
  walks first second f s =
      let given : Label → ℕ = entry_answers first second in
      let root : paged_known (place_of (root_question kind ea)) ≡ Some pointer = root_known kind ea less in
      record {
        plays = walk_is kind given ea less
            ∙ ap (λ (n : ℕ). Does (walked kind given ea) (second_end failing_turn.fixed.ram view kind ea (told_of (second_question kind ea) (second_value kind ea n)))) (given_second kind first second is_data)
            ∙ ap (λ (r : Reached). Does (walked kind given ea) r) (reached second s);
        may = λ i e j none. elim j [
          | inl q ↦ let gone : paged_known (place_of (root_question kind ea)) ≡ None = ap (λ (z : Entry). paged_known (entry_place z)) q ∙ none in absurd (cc)
          | inr j ↦ elim j [
            | inl q ↦ subst (λ (z : Entry). may_start failing_turn i (entry_label z) (entry_place z) z.value ≡ true) q
                (may_second kind i ea (second_value kind ea (given (second_label kind))) is_data
                (may_value b (sym known ∙ ap (λ (z : Entry). paged_known (entry_place z)) q ∙ none) (second_value kind ea (given (second_label kind)))
                (ap (λ (n : ℕ). second_value kind ea n) (given_second kind first second is_data) ∙ ap (λ (o : Option ℕ). value_or o second) known ∙ value_is b second s)))
            | inr j ↦ absurd j
          ]
        ];
        coherent = coherent_at kind given ea root;
        first_is = f ∙ sym (first_new kind given ea less is_data);
        second_is = s ∙ sym (second_new kind first second ea is_data ∙ ap (λ (o : Option ℕ). if_new o (value_or o second)) known ∙ new_is b second s);
      }
    where
      may_value : (c : Bool) → known_by_test c ≡ None → (v : ℕ) → v ≡ entry_value c → v ≡ invalid_page
      may_value true none v h = absurd (cc)
      may_value false none v h = h

  second_is : (first second : ℕ) → second ≡ if_new (paged_known (place_of (second_question kind ea))) (second_value kind ea second)
      → (paged_known (place_of (second_question kind ea)) ≡ None → may_start failing_turn some_instr (second_label kind) (place_of (second_question kind ea)) (second_value kind ea (entry_answers first second (second_label kind))) ≡ true)
      → second ≡ new_entry b
  unfolding known_by_test new_entry
  second_is first second is may = go b known
    where
      go : (c : Bool) → paged_known (place_of (second_question kind ea)) ≡ known_by_test c → second ≡ new_entry c
      go true k = is ∙ ap (λ (o : Option ℕ). if_new o (second_value kind ea second)) k
      go false k =
          let value : second_value kind ea (entry_answers first second (second_label kind)) ≡ second = ap (λ (o : Option ℕ). value_or o (entry_answers first second (second_label kind))) k ∙ given_second kind first second is_data in
          sym value ∙ second_may kind some_instr ea (second_value kind ea (entry_answers first second (second_label kind))) is_data (may k)

-- ---- rows

row_of : Bool → Kind → EntryRow
row_of true kind = mapped_row
row_of false kind = unmapped_row kind

is_row : (b : Bool) (kind : Kind) → HasItem (failing_rows kind) (row_of b kind)
unfolding row_of
is_row true kind = inl refl
is_row false kind = inr (inl refl)

row_holds : (b : Bool) (kind : Kind) (ea first second : ℕ) → eqb (index ea) 0 ≡ b → first ≡ 0 → second ≡ new_entry b → (row_of b kind).holds ea first second ≡ true
unfolding row_of new_entry
row_holds true kind ea first second m f s = and_from _ _ m (and_from _ _ (eq-eqb first 0 f) (eq-eqb second 0 s))
row_holds false kind ea first second m f s = and_from _ _ (ap not m) (and_from _ _ (eq-eqb first 0 f) (eq-eqb second invalid_page s))

row_end : (b : Bool) (kind : Kind) (ea : ℕ) → end_at (row_of b kind).end ea ≡ entry_end b kind ea
unfolding row_of entry_end
row_end true kind ea = refl
row_end false kind ea = refl

pub failing_are_rows : (kind : Kind) → root_label kind ≡ DataRoot → AreRows failing_turn (λ ea. true) kind (failing_rows kind)
unfolding row_of new_entry
failing_are_rows kind is_data = record {
  sound = λ row i ea first second less h. elim i [
    | inl q ↦ held true row ea first second less q h
    | inr j ↦ elim j [
      | inl q ↦ held false row ea first second less q h
      | inr j ↦ absurd j
    ]
  ];
  complete = λ ea first second log end less page_is w.
      let given : Label → ℕ = entry_answers first second in
      let b : Bool = eqb (index ea) 0 in
      let same = same_done (walked kind given ea) log _ end (sym (walk_is kind given ea less) ∙ w.plays) in
      let f : first ≡ 0 = w.first_is ∙ ap (λ (l : List Entry). new_value paged_known (labelled l DataRoot)) (sym same.0) ∙ first_new kind given ea less is_data in
      let s : second ≡ new_entry b = second_is kind is_data ea less b refl first second
      (w.second_is ∙ ap (λ (l : List Entry). new_value paged_known (labelled l DataSecond)) (sym same.0) ∙ second_new kind first second ea is_data)
      (λ none. w.may some_instr (answer paged_known given (second_question kind ea)) (subst (λ (l : List Entry). HasItem l (answer paged_known given (second_question kind ea))) same.0 (inr (inl refl))) none) in (
        row_of b kind,
        is_row b kind,
        row_holds b kind ea first second refl f s,
        row_end b kind ea
            ∙ sym (ap (λ (n : ℕ). second_end failing_turn.fixed.ram view kind ea (told_of (second_question kind ea) (second_value kind ea n))) (given_second kind first second is_data) ∙ reached kind is_data ea less b refl second s)
            ∙ same.1,
      );
}
  where
    parts : (b : Bool) (ea first second : ℕ) → (row_of b kind).holds ea first second ≡ true → (eqb (index ea) 0 ≡ b) × (first ≡ 0) × (second ≡ new_entry b)
    parts true ea first second h =
        let p = and_parts (is_mapped ea) (eqb first 0 && eqb second 0) h in
        let q = and_parts (eqb first 0) (eqb second 0) p.1 in (p.0, eqb-true first 0 q.0, eqb-true second 0 q.1)
    parts false ea first second h =
        let p = and_parts (not (is_mapped ea)) (eqb first 0 && eqb second invalid_page) h in
        let q = and_parts (eqb first 0) (eqb second invalid_page) p.1 in (unmapped (is_mapped ea) p.0, eqb-true first 0 q.0, eqb-true second invalid_page q.1)
      where
        unmapped : (c : Bool) → not c ≡ true → c ≡ false
        unmapped false h = refl
        unmapped true h = absurd (cc)

    held : (b : Bool) (row : EntryRow) (ea first second : ℕ) → ea < 2 ^ 32 → row_of b kind ≡ row → row.holds ea first second ≡ true → (log : List Entry) × Walks failing_turn kind ea first second log (end_at row.end ea)
    held b row ea first second less q h =
        let p = parts b ea first second (ap (λ (r : EntryRow). r.holds ea first second) q ∙ h) in (
          walked kind (entry_answers first second) ea,
          subst (λ (e : Reached). Walks failing_turn kind ea first second (walked kind (entry_answers first second) ea) e)
              (sym (row_end b kind ea) ∙ ap (λ (r : EntryRow). end_at r.end ea) q)
              (walks kind is_data ea less b p.0 first second p.1 p.2),
        )

-- ---- the leaves

load_posed : IsPosed failing_turn load_fetch 0x8000_0000 (failing_load_leaf 1 0 13)
unfolding translated from_root from_pointer second_end op_number all_in is_in_atom
load_posed = record { fetched = record { translates = refl; aligned = refl }; words = words; fixed = fixed; plain = plain_in (failing_load_leaf 1 0 13) refl }

store_posed : IsPosed failing_turn load_fetch 0x8000_0000 (failing_store_leaf 1 0 15)
unfolding translated from_root from_pointer second_end op_number all_in is_in_atom
store_posed = record { fetched = record { translates = refl; aligned = refl }; words = words; fixed = fixed; plain = plain_in (failing_store_leaf 1 0 15) refl }

load_values : Values
load_values slots.Op = op_number Lw
load_values slots.Rd = 5
load_values slots.Rs1 = 1
load_values slots.Ea = 0x1100
load_values slots.A = 0x1100
load_values slots.SecondPte = invalid_page
load_values slots.Vector = 0x8000_0200
load_values _ = 0

store_values : Values
store_values slots.Op = op_number Sw
store_values slots.Rs1 = 1
store_values slots.Ea = 0x1100
store_values slots.A = 0x1100
store_values slots.SecondPte = invalid_page
store_values slots.Vector = 0x8000_0200
store_values _ = 0

pub load_fault_possible : IsPossible failing_turn load_fetch 0x8000_0000 (failing_load_leaf 1 0 13) (Word 0x8000_2004) invalid_page
unfolding script at_address translated from_root from_pointer second_end fetched_at instruction decoded load_row load_at trap op_number op_numbered load_values
load_fault_possible = record {
  posed = load_posed;
  sources = λ v. refl;
  new = new_places failing_turn.fixed failing_turn.known load_values;
  candidate = candidate_of failing_turn load_fetch 0x8000_0000 (failing_load_leaf 1 0 13) (λ ea. true) (failing_rows ForLoad) (failing_rows ForStore) load_posed (λ ea less tested. refl) (failing_are_rows ForLoad refl) (failing_are_rows ForStore refl) Lw load_values (inl (fits_by _ _ refl refl refl));
  untouched = refl;
  starts = refl;
}

pub store_fault_possible : IsPossible failing_turn load_fetch 0x8000_0000 (failing_store_leaf 1 0 15) (Word 0x8000_2004) invalid_page
unfolding script at_address translated from_root from_pointer second_end fetched_at instruction decoded store_row store_at trap op_number op_numbered store_values
store_fault_possible = record {
  posed = store_posed;
  sources = λ v. refl;
  new = new_places failing_turn.fixed failing_turn.known store_values;
  candidate = candidate_of failing_turn load_fetch 0x8000_0000 (failing_store_leaf 1 0 15) (λ ea. true) (failing_rows ForLoad) (failing_rows ForStore) store_posed (λ ea less tested. refl) (failing_are_rows ForLoad refl) (failing_are_rows ForStore refl) Sw store_values (inl (fits_by _ _ refl refl refl));
  untouched = refl;
  starts = refl;
}
