-- Rows as what the translation's script does with new page table entries.
use Rattle.std.specs.Prelude.{◌≡◌, ℕ, ◌+◌, ◌*◌, ◌^◌, ◌<◌, Bool, true, false, ◌&&◌, nat_eq, nat_lt, bit_and, List, [], ◌∷◌, Option, Some, None}
use Rattle.rv_csr.specs.declared.cause.Cause.{Cause}
use Rattle.rv_mem.specs.declared.words.Seen.{Seen}
use Rattle.rv_mem.specs.declared.words.Seen.TheVariants.{Vacant}
use Rattle.rv_mem.specs.Part.{valued}
use Rattle.rv_mem.specs.Frames.{in_frames}
use Rattle.rv_script.specs.declared.place.Place.{Place}
use Rattle.rv_script.specs.declared.place.Place.TheVariants.{Reg, Csr, Word}
use Rattle.rv_script.specs.Lists.{HasItem}
use Rattle.rv_script.specs.Script.{Label, Label.FetchRoot, Label.FetchSecond, Label.DataRoot, Label.DataSecond}
use Rattle.rv_script.specs.Bytes.{word_address}
use Rattle.rv_script.specs.Folds.{Known, Answer.Does, Answer.Nowhere, Entry}
use Rattle.sv_walk.specs.Translation.{Reached, At, Fails, translated, root_address, root_label, second_label}
use Rattle.dom_set.specs.Elements.{is_in}
use Rattle.row_parts.specs.Gaps.{counts}
use Rattle.row_parts.specs.declared.row.Row.{Row}
use Rattle.row_parts.specs.declared.row.RowEnd.{RowEnd as CodeEnd}
use Rattle.row_parts.specs.declared.row.RowEnd.TheVariants.{Pa, Fault, Outside}
use Rattle.addr_rows.specs.Combinations.{Setting}
use Rattle.rv_script.specs.Logs.{entry_place, entry_label, answer_told, labelled, by_answers, where_unknown, new_value, Coherent}

-- the address of a word's place, and 0 of another's
abbrev pub word_address_of : Place → ℕ
word_address_of (Word addr) = addr
word_address_of (Reg n) = 0
word_address_of (Csr addr) = 0

-- a new root entry, and a new second entry, with this value may stand at this place
abbrev pub may_be_root : Setting → Place → ℕ → Bool
may_be_root st place v = nat_lt v (2 ^ 32) && (in_frames st.tables (word_address_of place) && st.first v)

abbrev pub may_be_second : Setting → Place → ℕ → Bool
may_be_second st place v = nat_lt v (2 ^ 32) && (in_frames st.tables (word_address_of place) && st.second v)

-- the rule for entries alone, by what is asked for
abbrev pub may_be_entry : Setting → Label → Place → ℕ → Bool
may_be_entry st FetchRoot place v = may_be_root st place v
may_be_entry st FetchSecond place v = may_be_second st place v
may_be_entry st DataRoot place v = may_be_root st place v
may_be_entry st DataSecond place v = may_be_second st place v
may_be_entry st _ place v = false

-- a rule of what may be started lets just these be entries
pub record LetsEntries (st : Setting) (may : Label → Place → ℕ → Type 0) : Type 0 where
  pub root_only : (place : Place) (v : ℕ) → may (root_label st.kind) place v → may_be_root st place v ≡ true
  pub root : (place : Place) (v : ℕ) → may_be_root st place v ≡ true → may (root_label st.kind) place v
  pub second_only : (place : Place) (v : ℕ) → may (second_label st.kind) place v → may_be_second st place v ≡ true
  pub second : (place : Place) (v : ℕ) → may_be_second st place v ≡ true → may (second_label st.kind) place v

-- what new entries may be is words
pub record AreWordForms (st : Setting) : Type 0 where
  pub first : (w : ℕ) → st.first w ≡ true → w < 2 ^ 32
  pub second : (w : ℕ) → st.second w ≡ true → w < 2 ^ 32

-- what is seen of a word that is there or not, and known or not
abbrev pub seen_by : Bool → Option ℕ → Seen
seen_by true o = valued o
seen_by false o = Vacant

-- memory shows the words that are known, which are below 2 ^ 32
pub record Shows (at : ℕ → Seen) (ram : ℕ → Bool) (known : Known) : Type 0 where
  pub seen : (n : ℕ) → n < 2 ^ 30 → at n ≡ seen_by (ram n) (known (Word (n * 4)))
  pub words : (n w : ℕ) → known (Word (n * 4)) ≡ Some w → w < 2 ^ 32

-- the answers to the two questions of a translation
abbrev pub entry_answers : ℕ → ℕ → Label → ℕ
entry_answers first second FetchRoot = first
entry_answers first second FetchSecond = second
entry_answers first second DataRoot = first
entry_answers first second DataSecond = second
entry_answers first second _ = 0

-- with these new entries, 0 where one is not new, the translation of an address is done; the new entries may be started, and are distinct
pub record Walks (st : Setting) (known : Known) (may : Label → Place → ℕ → Type 0) (ea first second : ℕ) (log : List Entry) (end : Reached) : Type 0 where
  pub plays : answer_told (by_answers known (entry_answers first second)) (translated st.ram st.view st.kind ea) ≡ Does log end
  pub may_start : (e : Entry) → HasItem log e → known (entry_place e) ≡ None → may (entry_label e) (entry_place e) e.value
  pub coherent : Coherent known log
  pub first_is : first ≡ new_value known (labelled log (root_label st.kind))
  pub second_is : second ≡ new_value known (labelled log (second_label st.kind))

-- the value at a question, where its place was not known
abbrev pub new_at : Known → Option Entry → Option ℕ
new_at known None = None
new_at known (Some e) = where_unknown (known (entry_place e)) (Some e.value)

-- the new entries of a log; there is none where an entry was known or not asked for, whatever its value
pub record AreNews (st : Setting) (known : Known) (log : List Entry) (root leaf : Option ℕ) : Type 0 where
  pub root_is : root ≡ new_at known (labelled log (root_label st.kind))
  pub leaf_is : leaf ≡ new_at known (labelled log (second_label st.kind))

-- a value, 0 where there is none
abbrev pub value_of : Option ℕ → ℕ
value_of (Some w) = w
value_of None = 0

-- the place of an address's root entry
abbrev pub root_place : Setting → ℕ → Place
root_place st ea = Word (word_address (root_address st.view ea))

-- with these new entries the translation of an address has no step: it asked for the root entry alone, which is new exactly where it is not known, and then may be started
pub record WalksOut (st : Setting) (known : Known) (may : Label → Place → ℕ → Type 0) (ea : ℕ) (root leaf : Option ℕ) : Type 0 where
  pub plays : answer_told (by_answers known (entry_answers (value_of root) (value_of leaf))) (translated st.ram st.view st.kind ea) ≡ Nowhere
  pub root_is : root ≡ where_unknown (known (root_place st ea)) (Some (value_of root))
  pub may_start : known (root_place st ea) ≡ None → may (root_label st.kind) (root_place st ea) (value_of root)
  pub leaf_is : leaf ≡ None

-- where a row leads: to an address by the virtual one, or to a fault
pub data RowEnd : Type 0 where
  Leads : (ℕ → ℕ) → RowEnd
  Faults : Cause → RowEnd

abbrev pub end_at : RowEnd → ℕ → Reached
end_at (Leads to) ea = At (to ea)
end_at (Faults cause) ea = Fails cause

-- some addresses with new entries, and where they lead
pub record EntryRow : Type 0 where
  pub holds : ℕ → ℕ → ℕ → Bool
  pub end : RowEnd

-- each address of the set with new entries of the forms is in a row, with the end that the translation has; a row holds nothing else
pub record AreRows (st : Setting) (known : Known) (may : Label → Place → ℕ → Type 0) (pages : ℕ → Bool) (rows : List EntryRow) : Type 0 where
  pub sound : (row : EntryRow) → HasItem rows row → (ea first second : ℕ) → ea < 2 ^ 32 → row.holds ea first second ≡ true → (log : List Entry) × Walks st known may ea first second log (end_at row.end ea)
  pub complete : (ea first second : ℕ) (log : List Entry) (end : Reached) → ea < 2 ^ 32 → pages ea ≡ true → Walks st known may ea first second log end → (row : EntryRow) × HasItem rows row × (row.holds ea first second ≡ true) × (end_at row.end ea ≡ end)

-- a value is one of a row's new words, or 0 where the row has none
abbrev pub has_value : Option (List ℕ) → ℕ → Bool
has_value None v = nat_eq v 0
has_value (Some words) v = is_in words v

abbrev pub row_holds : Row → ℕ → ℕ → ℕ → Bool
row_holds row ea first second = counts row.apart ea && (is_in row.ea ea && (has_value row.root first && has_value row.leaf second))

-- a row of the code, before others; one that leads outside says of nothing where it leads
abbrev pub entry_row : Row → CodeEnd → List EntryRow → List EntryRow
entry_row row (Pa base mask) rows = record { holds = row_holds row; end = Leads (λ ea. base + bit_and ea mask) } ∷ rows
entry_row row (Fault cause) rows = record { holds = row_holds row; end = Faults cause } ∷ rows
entry_row row Outside rows = rows

abbrev pub entry_rows : List Row → List EntryRow
entry_rows [] = []
entry_rows (row ∷ rows) = entry_row row row.end (entry_rows rows)
