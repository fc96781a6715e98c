-- What a load or store asks of a physical address is what the sets of bytes say of it.
use Rattle.std.proofs.Common.{◌≡◌, ℕ, zero, suc, ◌+◌, ◌/◌, ◌%◌, ◌^◌, ◌<◌, Bool, true, false, not, ◌&&◌, ◌||◌, nat_eq, if◌then◌else◌, List, [], ◌∷◌, ◌++◌, refl, sym, ap, ◌∙◌, arith}
use Rattle.std.proofs.lemmas.Bool.{eqb-true}
use Rattle.std.proofs.lemmas.Bool.Decides.{nat_tests}
use Rattle.std.specs.List.{list_all}
use Rattle.dom_set.specs.Elements.{is_in}
use Rattle.rv_isa.specs.declared.operation.Op.{Op}
use Rattle.rv_isa.specs.Encoding.{word_of}
use Rattle.rv_isa.specs.Fields.{is_load}
use Rattle.rv_isa.specs.Table.{row_of}
use Rattle.rv_csr.specs.declared.cause.Cause.{Cause}
use Rattle.rv_csr.specs.declared.cause.Cause.TheVariants.{LoadMisaligned, StoreMisaligned}
use Rattle.rv_script.specs.declared.access.Role.TheVariants.{Fetch, Load as Loads, Store as Stores}
use Rattle.rv_script.specs.Bytes.{covers, part_of, any_byte}
use Rattle.rv_script.specs.declared.access.Access.{Access}
use Rattle.rv_script.specs.Folds.{Entry, by_known}
use Rattle.rv_script.specs.Script.{Question}
use Rattle.foot_map.specs.Races.{is_blocked}
use Rattle.sv_walk.specs.declared.entry.Kind.{Kind}
use Rattle.sv_walk.specs.declared.entry.Kind.TheVariants.{Fetch as ForFetch, Load as ForLoad, Store as ForStore}
use Rattle.sv_walk.specs.Translation.{At}
use Rattle.rv_hart.specs.Machine.{fetch_view, size_of}
use Rattle.fd_prob.specs.declared.slot.Slot.TheVariants as slots
use Rattle.data_bytes.specs.declared.starts.DataAccess.TheVariants.{Load, Store}
use Rattle.data_bytes.specs.Starts.{IsSize, barred_of, is_open}
use Rattle.leaf_link.specs.Turns.{Turn, is_free_entry}
use Rattle.leaf_link.specs.Values.{Values, instr_in}
use Rattle.leaf_link.specs.Candidates.{accesses_in}
use Rattle.leaf_link.specs.Cases.{fetch_entry}
use Rattle.leaf_link.specs.Reaching.{data_walk, load_question, store_apart, store_question}
use Rattle.leaf_link.proofs.Front.{accesses_then}
use Rattle.leaf_link.specs.Ways.{IsFetched}
use Rattle.data_goals.specs.Goals.{access_of, is_aligned_to}
use Rattle.data_goals.specs.declared.accesses.Accesses.{Accesses}
use Rattle.data_goals.specs.Grounds.{HasAccesses, is_walked}
use Rattle.data_goals.proofs.Bytes.{any_same, races}
use Rattle.data_goals.proofs.Memory.{loads_barred, may_be_data, stores_barred}
use Rattle.data_goals.proofs.Entries.{AreEntries, all_then, apart_entries, walk_entries}

-- WHAT IS OWED OF A LOAD OR STORE
-- what the sets say of a physical address
abbrev pub may_go : Accesses → Op → ℕ → Bool
may_go a op p = is_open (barred_of a.bytes (access_of op)) (size_of op) p && (is_load (row_of op) || not (is_in a.walked p))

pub record IsAccess (t : Turn) (a : Accesses) (op : Op) (kind : Kind) (misaligned : Cause) (question : Values → ℕ → Question) (apart : Values → ℕ → Bool) : Type 0 where
  pub traps : (if is_load (row_of op) then LoadMisaligned else StoreMisaligned) ≡ misaligned
  pub size : IsSize (size_of op)
  pub free : (x : Values) (p : ℕ) (log : List Entry) → p < 2 ^ 32 → is_aligned_to op p ≡ true → may_be_data a.bytes p ≡ true → data_walk t kind x ≡ log → AreEntries log
      → (is_free_entry t (record { question = question x p; value = 0 }) && apart x p) ≡ (may_go a op p && (is_load (row_of op) || not (is_walked log p)))

and_true : (b : Bool) → (b && true) ≡ b
and_true true = refl
and_true false = refl

open_by : (a : Accesses) (op : Op) (p : ℕ) (load : Bool) → is_load (row_of op) ≡ load → is_aligned_to op p ≡ true
    → not (any_byte (size_of op) p (is_in (barred_of a.bytes (if load then Load else Store)))) ≡ is_open (barred_of a.bytes (access_of op)) (size_of op) p
open_by a op p load h aligned =
    ap (λ (b : Bool). b && not (any_byte (size_of op) p (is_in (barred_of a.bytes (if load then Load else Store))))) (sym aligned)
    ∙ ap (λ (b : Bool). is_open (barred_of a.bytes (if b then Load else Store)) (size_of op) p) (sym h)

-- LOADS
pub load_access : (t : Turn) (walk : List Entry) (pa : ℕ) (a : Accesses) → HasAccesses t walk pa a → (op : Op) → is_load (row_of op) ≡ true → IsSize (size_of op) → IsAccess t a op ForLoad LoadMisaligned (load_question op) (λ x p. true)
load_access t walk pa a has op load is = record {
  traps = ap (λ (b : Bool). if b then LoadMisaligned else StoreMisaligned) load;
  size = is;
  free = λ x p log small aligned may same are.
      let m = eqb-true _ _ aligned in
      and_true _
      ∙ ap not (races t.feet t.fixed.number (record { role = Loads; addr = p; size = size_of op; value = part_of p (size_of op) 0 }) is m)
      ∙ ap not (sym (loads_barred t walk pa a has (size_of op) p is m small may))
      ∙ open_by a op p true load aligned
      ∙ sym (ap (λ (b : Bool). (is_open (barred_of a.bytes (access_of op)) (size_of op) p && (b || not (is_in a.walked p))) && (b || not (is_walked log p))) load ∙ and_true _ ∙ and_true _);
}

-- STORES
fetched : (t : Turn) (pa w b : ℕ) → pa % 4 ≡ 0 → covers (record { role = Fetch; addr = pa; size = 4; value = part_of pa 4 w }) b ≡ nat_eq (b / 4) (pa / 4)
fetched t pa w b aligned = grind (arith, nat_tests)

-- a store is apart from what the step fetches and walks where it goes to none of the words
apart_is : (t : Turn) (walk : List Entry) (pa : ℕ) (op : Op) (x : Values) (p : ℕ) (log : List Entry) → AreEntries walk → AreEntries log → data_walk t ForStore x ≡ log → IsSize (size_of op) → p % size_of op ≡ 0 → pa % 4 ≡ 0
    → store_apart t walk pa op x p ≡ (not (is_walked walk p) && (not (any_byte (size_of op) p (λ b. nat_eq (b / 4) (pa / 4))) && not (is_walked log p)))
apart_is t walk pa op x p log first last same is m aligned =
    let w : ℕ = word_of (instr_in x) in
    let size : ℕ = size_of op in
    let test : Access → Bool = λ y. not (any_byte size p (covers y)) in
    ap (λ (l : List Entry). list_all (λ y. not (any_byte size p (covers y))) (accesses_in (walk ++ fetch_entry t pa w ∷ l))) same
    ∙ ap (list_all test) (accesses_then walk (fetch_entry t pa w ∷ log))
    ∙ all_then test (accesses_in walk) (accesses_in (fetch_entry t pa w ∷ log))
    ∙ ap (λ (b : Bool). b && (not (any_byte size p (covers (record { role = Fetch; addr = pa; size = 4; value = part_of pa 4 w }))) && list_all test (accesses_in log))) (apart_entries walk first size p is m)
    ∙ ap (λ (b : Bool). not (is_walked walk p) && (not b && list_all test (accesses_in log))) (any_same size p _ (λ b. nat_eq (b / 4) (pa / 4)) (λ b low high. fetched t pa w b aligned))
    ∙ ap (λ (b : Bool). not (is_walked walk p) && (not (any_byte size p (λ b. nat_eq (b / 4) (pa / 4))) && b)) (apart_entries log last size p is m)

shuffled : (blocked walked code own : Bool) → (not blocked && (not walked && (not code && not own))) ≡ ((not (blocked || code) && not walked) && not own)
shuffled true walked code own = refl
shuffled false true true own = refl
shuffled false true false own = refl
shuffled false false true own = refl
shuffled false false false own = refl

pub store_access : (t : Turn) (walk : List Entry) (pa : ℕ) (a : Accesses) → HasAccesses t walk pa a → IsFetched t walk pa → (op : Op) → is_load (row_of op) ≡ false → IsSize (size_of op)
    → IsAccess t a op ForStore StoreMisaligned (store_question op) (store_apart t walk pa op)
store_access t walk pa a has f op store is = record {
  traps = ap (λ (b : Bool). if b then LoadMisaligned else StoreMisaligned) store;
  size = is;
  free = λ x p log small aligned may same are.
      let m = eqb-true _ _ aligned in
      let size : ℕ = size_of op in
      let code : Bool = any_byte size p (λ b. nat_eq (b / 4) (pa / 4)) in
      let barred : any_byte size p (is_in a.bytes.not_stored) ≡ (any_byte size p (is_blocked t.feet t.fixed.number Stores) || code) = stores_barred t walk pa a has size p is m small may in
      ap (λ (b : Bool). not b && store_apart t walk pa op x p) (races t.feet t.fixed.number (record { role = Stores; addr = p; size = size; value = x slots.B % 256 ^ size }) is m)
      ∙ ap (λ (b : Bool). not (any_byte size p (is_blocked t.feet t.fixed.number Stores)) && b)
      (apart_is t walk pa op x p log (walk_entries t.fixed.ram (fetch_view t.fixed) ForFetch t.fixed.pc (by_known t.known) walk (At pa) f.translates) are same is m has.aligned)
      ∙ shuffled (any_byte size p (is_blocked t.feet t.fixed.number Stores)) (is_walked walk p) code (is_walked log p)
      ∙ ap (λ (b : Bool). (not b && not (is_walked walk p)) && not (is_walked log p)) (sym barred)
      ∙ ap (λ (b : Bool). (b && not (is_walked walk p)) && not (is_walked log p)) (open_by a op p false store aligned)
      ∙ ap (λ (b : Bool). (is_open (barred_of a.bytes (access_of op)) size p && not b) && not (is_walked log p)) (sym (has.walked p small))
      ∙ sym (ap (λ (b : Bool). (is_open (barred_of a.bytes (access_of op)) size p && (b || not (is_in a.walked p))) && (b || not (is_walked log p))) store);
}
