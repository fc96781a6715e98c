-- The ways of loads and stores, from the rows of their addresses.
use Rattle.std.specs.Prelude.{◌≡◌, ℕ, ◌+◌, ◌++◌, ◌%◌, ◌^◌, ◌<◌, Bool, true, false, not, ◌&&◌, ◌||◌, nat_eq, nat_lt, if◌then◌else◌, List, ◌∷◌, map, None}
use Rattle.std.specs.List.{list_all}
use Rattle.rv_isa.specs.declared.instruction.Instr.{Instr}
use Rattle.rv_isa.specs.declared.operation.Op.{Op}
use Rattle.rv_isa.specs.Fields.{is_load, is_store}
use Rattle.rv_isa.specs.Encoding.{word_of}
use Rattle.rv_isa.specs.Table.{row_of}
use Rattle.rv_csr.specs.declared.cause.Cause.{Cause}
use Rattle.rv_csr.specs.declared.cause.Cause.TheVariants.{LoadMisaligned, StoreMisaligned}
use Rattle.rv_csr.specs.Causes.{number_of}
use Rattle.rv_script.specs.declared.place.Place.{Place}
use Rattle.rv_script.specs.declared.place.Place.TheVariants.{Word}
use Rattle.rv_script.specs.Bytes.{covers, word_address, any_byte}
use Rattle.rv_script.specs.Lists.{HasItem}
use Rattle.rv_script.specs.Script.{Label.DataRoot, Label.DataSecond, Label.DataWord, Question, Question.OfMemory, Question.ToMemory}
use Rattle.rv_script.specs.Folds.{Answer.Does, Entry}
use Rattle.sv_walk.specs.declared.entry.Kind.{Kind}
use Rattle.sv_walk.specs.declared.entry.Kind.TheVariants.{Load as ForLoad, Store as ForStore}
use Rattle.sv_walk.specs.Translation.{Reached, translated}
use Rattle.addr_rows.specs.Walks.{EntryRow, Faults, Leads, RowEnd, end_at, entry_answers}
use Rattle.rv_hart.specs.Machine.{data_view, size_of}
use Rattle.tpl_ast.specs.declared.template.Atom.{Atom}
use Rattle.tpl_ast.specs.declared.template.Var.TheVariants as vars
use Rattle.fd_prob.specs.declared.slot.Slot.{Slot}
use Rattle.fd_prob.specs.declared.slot.Slot.TheVariants as slots
use Rattle.rv_script.specs.Logs.{same_place, entry_place, entry_label, answer_told, log_of, labelled, by_answers, new_value, Coherent}
use Rattle.rv_mem.specs.Frames.{in_frames}
use Rattle.leaf_link.specs.Turns.{Turn, is_free_entry, may_start}
use Rattle.leaf_link.specs.Values.{Values, given_by, instr_in}
use Rattle.leaf_link.specs.Candidates.{accesses_in}
use Rattle.leaf_link.specs.Cases.{Way, all_tests, fetch_entry, is_some_word}
use Rattle.leaf_link.specs.Kinds.{is_vector, traps_when}
use Rattle.leaf_link.specs.KindLaws.{IsExact, IsPosed}

-- WHAT IS KNOWN OF PAGE TABLES: THE ROWS

-- with these new entries, 0 where one is not new, the translation of an address is done; the new entries are of the forms, in table frames and distinct
pub record Walks (t : Turn) (kind : Kind) (ea first second : ℕ) (log : List Entry) (end : Reached) : Type 0 where
  pub plays : answer_told (by_answers t.known (entry_answers first second)) (translated t.fixed.ram (data_view t.fixed) kind ea) ≡ Does log end
  pub may : (i : Instr) (e : Entry) → HasItem log e → t.known (entry_place e) ≡ None → may_start t i (entry_label e) (entry_place e) e.value ≡ true
  pub coherent : Coherent t.known log
  pub first_is : first ≡ new_value t.known (labelled log DataRoot)
  pub second_is : second ≡ new_value t.known (labelled log DataSecond)

-- each address of some pages with new entries of the forms is in a row, with the end that the translation has; a row holds nothing else
pub record AreRows (t : Turn) (pages : ℕ → Bool) (kind : Kind) (rows : List EntryRow) : Type 0 where
  pub sound : (row : EntryRow) → HasItem rows row → (ea first second : ℕ) → ea < 2 ^ 32 → row.holds ea first second ≡ true → (log : List Entry) × Walks t kind ea first second log (end_at row.end ea)
  pub complete : (ea first second : ℕ) (log : List Entry) (end : Reached) → ea < 2 ^ 32 → pages ea ≡ true → Walks t kind ea first second log end → (row : EntryRow) × HasItem rows row × (row.holds ea first second ≡ true) × (end_at row.end ea ≡ end)

-- the pages have every address that the atoms let the virtual one be
abbrev pub HasPages : Turn → List Atom → (ℕ → Bool) → Type 0
HasPages t leaf pages = (ea : ℕ) → ea < 2 ^ 32 → all_tests t leaf vars.Ea ea ≡ true → pages ea ≡ true

-- WAYS

-- what the translation of the values' address asks
abbrev pub data_walk : Turn → Kind → Values → List Entry
data_walk t kind x = log_of (answer_told (by_answers t.known (given_by x)) (translated t.fixed.ram (data_view t.fixed) kind (x slots.Ea)))

-- a place is not that of the fetched word, where this is new
abbrev pub not_code : Turn → ℕ → Place → Bool
not_code t pa place = is_some_word (t.known (Word pa)) || not (same_place (Word pa) place)

-- the entries race with nothing, and none is the new fetched word
abbrev pub walk_keeps : Turn → ℕ → List Entry → Bool
walk_keeps t pa log = list_all (λ e. is_free_entry t e && not_code t pa (entry_place e)) log

-- a place is none of the new entries
abbrev pub not_walked : Turn → Place → List Entry → Bool
not_walked t place log = list_all (λ e. is_some_word (t.known (entry_place e)) || not (same_place (entry_place e) place)) log

-- the data word is known, or a word of the pool
abbrev pub is_data_word : Turn → ℕ → ℕ → Bool
is_data_word t p v = if is_some_word (t.known (Word (word_address p))) then nat_eq v 0 else (nat_lt v (2 ^ 32) && in_frames t.pool (word_address p))

-- the access to a physical address races with nothing, is where the atoms want it, and its word has one role
abbrev pub data_keeps : Turn → ℕ → List Atom → (Values → ℕ → Question) → List Entry → Values → ℕ → Bool
data_keeps t pa leaf question log x p =
    is_free_entry t (record { question = question x p; value = 0 })
    && (is_data_word t p (x slots.DataWord)
    && (not_code t pa (Word (word_address p))
    && (not_walked t (Word (word_address p)) log
    && all_tests t leaf vars.Pa p)))

abbrev pub is_aligned : Op → Values → Bool
is_aligned op x = nat_eq (x slots.Ea % size_of op) 0

-- nothing is started but page table entries and the data word
abbrev pub data_new : Slot → ℕ → Bool
data_new slots.OldCsr v = nat_eq v 0
data_new slots.Vector v = nat_eq v 0
data_new _ v = true

-- nothing is started but page table entries and the vector
abbrev pub fault_new : Turn → Cause → Slot → ℕ → Bool
fault_new t cause slots.DataWord v = nat_eq v 0
fault_new t cause slots.OldCsr v = nat_eq v 0
fault_new t cause slots.Vector v = is_vector t cause v
fault_new t cause _ v = true

abbrev pub in_row : Op → EntryRow → Values → Bool
in_row op row x = is_aligned op x && row.holds (x slots.Ea) (x slots.FirstPte) (x slots.SecondPte)

-- the way of a row; `question` is the access, and `apart` says that it keeps apart from what the same step fetches and walks
abbrev pub way_to : Turn → ℕ → List Atom → Op → Kind → (Values → ℕ → Question) → (Values → ℕ → Bool) → EntryRow → RowEnd → Way
way_to t pa leaf op kind question apart row (Leads to) = record {
  outcome = 255;
  reaches = true;
  also = data_new;
  holds = λ x. in_row op row x && (walk_keeps t pa (data_walk t kind x) && (data_keeps t pa leaf question (data_walk t kind x) x (to (x slots.Ea)) && apart x (to (x slots.Ea))));
}
way_to t pa leaf op kind question apart row (Faults cause) = record {
  outcome = number_of cause;
  reaches = false;
  also = fault_new t cause;
  holds = λ x. in_row op row x && walk_keeps t pa (data_walk t kind x);
}

abbrev pub way_of : Turn → ℕ → List Atom → Op → Kind → (Values → ℕ → Question) → (Values → ℕ → Bool) → EntryRow → Way
way_of t pa leaf op kind question apart row = way_to t pa leaf op kind question apart row row.end

-- the ways of a load or store: a misaligned address traps, and each row is a way
abbrev pub data_ways : Turn → ℕ → List Atom → Op → Kind → Cause → (Values → ℕ → Question) → (Values → ℕ → Bool) → List EntryRow → List Way
data_ways t pa leaf op kind misaligned question apart rows = traps_when t misaligned (λ x. not (is_aligned op x)) ∷ map (way_of t pa leaf op kind question apart) rows

-- LOADS
abbrev pub load_question : Op → Values → ℕ → Question
load_question op x p = OfMemory DataWord p (size_of op)

abbrev pub load_ways : Turn → ℕ → List Atom → Op → List EntryRow → List Way
load_ways t pa leaf op rows = data_ways t pa leaf op ForLoad LoadMisaligned (load_question op) (λ x p. true) rows

abbrev pub LoadsAreExact : Type 0
LoadsAreExact =
    (t : Turn) (walk : List Entry) (pa : ℕ) (leaf : List Atom) (pages : ℕ → Bool) (rows : List EntryRow) → IsPosed t walk pa leaf → HasPages t leaf pages → AreRows t pages ForLoad rows
    → (op : Op) → is_load (row_of op) ≡ true → IsExact t walk pa leaf op (load_ways t pa leaf op rows)

-- STORES
abbrev pub store_question : Op → Values → ℕ → Question
store_question op x p = ToMemory p (size_of op) (x slots.B % 256 ^ size_of op)

-- the bytes that a store writes are none that the same step fetches or walks
abbrev pub store_apart : Turn → List Entry → ℕ → Op → Values → ℕ → Bool
store_apart t walk pa op x p = list_all (λ y. not (any_byte (size_of op) p (covers y))) (accesses_in (walk ++ fetch_entry t pa (word_of (instr_in x)) ∷ data_walk t ForStore x))

abbrev pub store_ways : Turn → List Entry → ℕ → List Atom → Op → List EntryRow → List Way
store_ways t walk pa leaf op rows = data_ways t pa leaf op ForStore StoreMisaligned (store_question op) (store_apart t walk pa op) rows

abbrev pub StoresAreExact : Type 0
StoresAreExact =
    (t : Turn) (walk : List Entry) (pa : ℕ) (leaf : List Atom) (pages : ℕ → Bool) (rows : List EntryRow) → IsPosed t walk pa leaf → HasPages t leaf pages → AreRows t pages ForStore rows
    → (op : Op) → is_store (row_of op) ≡ true → IsExact t walk pa leaf op (store_ways t walk pa leaf op rows)
