-- Leaves that have candidates where addresses are translated: a load, a load and a store that fail, a fetch, and a fetch that fails, each with
-- an untouched second page table entry, of a hart in S.
use Rattle.std.specs.Prelude.{◌≡◌, ℕ, ◌+◌, ◌/◌, ◌%◌, ◌^◌, Bool, true, not, ◌&&◌, nat_eq, if◌then◌else◌, List, [], ◌∷◌, Some, None}
use Rattle.rv_csr.specs.declared.cause.Cause.TheVariants.{FetchPage}
use Rattle.rv_csr.specs.declared.privilege.Priv.TheVariants.{S}
use Rattle.rv_script.specs.declared.place.Place.TheVariants.{Reg, Csr, Word}
use Rattle.rv_script.specs.Script.{Label.FetchRoot, Label.FetchSecond, Question.OfMemory}
use Rattle.rv_script.specs.Folds.{Known, Entry}
use Rattle.sv_walk.specs.declared.entry.Kind.{Kind}
use Rattle.sv_walk.specs.declared.entry.Kind.TheVariants.{Load as ForLoad, Store as ForStore}
use Rattle.sv_walk.specs.Entry.{page_cause}
use Rattle.sv_walk.specs.Translation.{At, Fails}
use Rattle.addr_rows.specs.Walks.{EntryRow, Faults, Leads}
use Rattle.leaf_link.specs.Turns.{Turn}
use Rattle.leaf_link.specs.Reaching.{AreRows}
use Rattle.leaf_link.specs.Fetches.{IsFetchCandidate}
use Rattle.leaf_link.specs.FetchRows.{AreFetchRows, FetchRow}
use Rattle.leaf_link.specs.Faults.{IsFaultCandidate}
use Rattle.leaf_link.specs.Witnesses.{IsPossible, failing_load_leaf, failing_store_leaf, load_leaf}

-- a pointer to the table at 0x8000_2000; the page at 0x8000_0000 with V, R, W, X, A and D, and without V
abbrev pub pointer : ℕ
pointer = 0x2000_0801

abbrev pub page : ℕ
page = 0x2000_00cf

abbrev pub invalid_page : ℕ
invalid_page = 0x2000_0000

-- each entry of the root table, at 0x8000_1000, is the pointer; of the table that it leads to only the first entry is known, and is the page;
-- x1 holds an address of the second one
abbrev pub paged_known : Known
paged_known (Reg n) = if nat_eq n 0 then Some 0 else (if nat_eq n 1 then Some 0x1100 else None)
paged_known (Csr addr) = None
paged_known (Word addr) = if nat_eq (addr / 4096) 0x8_0001 then Some pointer else (if nat_eq addr 0x8000_2000 then Some page else None)

-- a hart in S at an address, with Sv32 on
abbrev pub paged_turn : ℕ → List ℕ → Turn
paged_turn pc flags = record {
  fixed = record { pc = pc; privilege = S; mstatus = 0; medeleg = 0; satp = 0x8008_0001; number = 0; ram = λ n. true };
  known = paged_known;
  feet = [];
  pool = 0x8000_0000 ∷ [];
  tables = 0x8000_2000 ∷ [];
  flags = flags;
  vectors = 0x8000_0200 ∷ [];
  names = λ n. None;
  sets = λ n. [];
  others = [];
  sources = λ v. true;
}

-- A LOAD
-- its fetch is translated by known entries
abbrev pub load_turn : Turn
load_turn = paged_turn 0x8000_0000 (0xcf ∷ [])

abbrev pub load_fetch : List Entry
load_fetch = record { question = OfMemory FetchRoot 0x8000_1800 4; value = pointer } ∷ record { question = OfMemory FetchSecond 0x8000_2000 4; value = page } ∷ []

-- the second entry of an address: the known page for 0, and else a new one
abbrev pub new_page : ℕ → ℕ
new_page ea = if nat_eq (ea / 2 ^ 12 % 2 ^ 10) 0 then 0 else page

abbrev pub page_rows : List EntryRow
page_rows = record { holds = λ ea first second. nat_eq first 0 && nat_eq second (new_page ea); end = Leads (λ ea. 0x8000_0000 + ea % 2 ^ 12) } ∷ []

-- ACCESSES THAT FAIL
-- an entry that is new has V clear
abbrev pub failing_turn : Turn
failing_turn = paged_turn 0x8000_0000 (0 ∷ [])

-- the address is in the page whose entry is known
abbrev pub is_mapped : ℕ → Bool
is_mapped ea = nat_eq (ea / 2 ^ 12 % 2 ^ 10) 0

abbrev pub mapped_row : EntryRow
mapped_row = record { holds = λ ea first second. is_mapped ea && (nat_eq first 0 && nat_eq second 0); end = Leads (λ ea. 0x8000_0000 + ea % 2 ^ 12) }

abbrev pub unmapped_row : Kind → EntryRow
unmapped_row kind = record { holds = λ ea first second. not (is_mapped ea) && (nat_eq first 0 && nat_eq second invalid_page); end = Faults (page_cause kind) }

abbrev pub failing_rows : Kind → List EntryRow
failing_rows kind = mapped_row ∷ unmapped_row kind ∷ []

-- FETCHES
-- the entry of the pc's page is not known
abbrev pub fetch_turn : Turn
fetch_turn = paged_turn 0x8000_1000 (0xcf ∷ 0 ∷ [])

abbrev pub fetch_page_rows : List FetchRow
fetch_page_rows =
    record { holds = λ first second. nat_eq first 0 && nat_eq second page; end = At 0x8000_0000 }
    ∷ record { holds = λ first second. nat_eq first 0 && nat_eq second invalid_page; end = Fails FetchPage }
    ∷ []

-- a fetch page fault is listed
abbrev pub page_fault : ℕ → Bool
page_fault cause = nat_eq cause 12

-- there is a fetch candidate, which starts the entry
pub record IsFetchPossible : Type 0 where
  pub new : Known
  pub candidate : IsFetchCandidate fetch_turn new
  pub starts : new (Word 0x8000_2004) ≡ Some page

-- there is a candidate of a `fault` leaf, which starts the entry and the vector
pub record IsFaultPossible : Type 0 where
  pub new : Known
  pub candidate : IsFaultCandidate fetch_turn page_fault new
  pub starts : new (Word 0x8000_2004) ≡ Some invalid_page
  pub vector : new (Csr 0x305) ≡ Some 0x8000_0200

pub record HaveWalks : Type 0 where
  pub loads : AreRows load_turn (λ ea. true) ForLoad page_rows
  pub stores : AreRows load_turn (λ ea. true) ForStore page_rows
  -- the second entry of the address in x1
  pub load : IsPossible load_turn load_fetch 0x8000_0000 (load_leaf 1) (Word 0x8000_2004) page
  pub failing_loads : AreRows failing_turn (λ ea. true) ForLoad (failing_rows ForLoad)
  pub failing_stores : AreRows failing_turn (λ ea. true) ForStore (failing_rows ForStore)
  pub load_fault : IsPossible failing_turn load_fetch 0x8000_0000 (failing_load_leaf 1 0 13) (Word 0x8000_2004) invalid_page
  pub store_fault : IsPossible failing_turn load_fetch 0x8000_0000 (failing_store_leaf 1 0 15) (Word 0x8000_2004) invalid_page
  pub fetches : AreFetchRows fetch_turn fetch_page_rows
  pub untouched : fetch_turn.known (Word 0x8000_2004) ≡ None
  pub vector : fetch_turn.known (Csr 0x305) ≡ None
  pub fetch : IsFetchPossible
  pub fault : IsFaultPossible
