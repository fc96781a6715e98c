-- The moment at which a leaf is solved, and what may be started at it.
use Rattle.std.specs.Prelude.{ℕ, ◌+◌, ◌*◌, ◌/◌, ◌^◌, Bool, true, false, not, ◌&&◌, ◌||◌, ◌==◌, nat_eq, nat_le, nat_lt, if◌then◌else◌, List, length, Option, Some, None}
use Rattle.std.specs.List.{list_any}
use Rattle.dom_set.specs.Elements.{elements_of, is_in}
use Rattle.rv_isa.specs.declared.instruction.Instr.{Instr}
use Rattle.rv_isa.specs.declared.table.Row.{Row}
use Rattle.rv_isa.specs.declared.table.Row.TheVariants.{Csr as CsrRow, R, I, Shift, S, B, U, J, CsrImmediate, FenceSets, AddressFence, Fixed as Whole, DefinedIllegal}
use Rattle.rv_isa.specs.Table.{row_of}
use Rattle.rv_csr.specs.Table.{is_legal_at}
use Rattle.rv_mem.specs.Frames.{in_frames}
use Rattle.rv_script.specs.declared.access.Access.{Access}
use Rattle.rv_script.specs.declared.place.Place.{Place}
use Rattle.rv_script.specs.declared.place.Place.TheVariants.{Reg, Csr, Word}
use Rattle.rv_script.specs.Bytes.{covers}
use Rattle.rv_script.specs.Script.{Label, Label.FetchRoot, Label.FetchSecond, Label.Fetched, Label.FromRs1, Label.FromRs2, Label.FromCsr, Label.DataRoot, Label.DataSecond, Label.DataWord, Label.FromVector, access_of}
use Rattle.rv_script.specs.Folds.{Known, Entry}
use Rattle.foot_map.specs.declared.touch.Touch.{Touch}
use Rattle.foot_map.specs.Races.{breaks}
use Rattle.rv_hart.specs.declared.record.Record.{Record}
use Rattle.rv_hart.specs.Fixed.{Fixed}

-- where the leaf's hart stands, what is known, what was touched so far, and what the template lets a step start
pub record Turn : Type 0 where
  -- the fixed parts of the hart; its number is among them
  pub fixed : Fixed
  -- the places that are started or written, with the values that they have at the turn: registers and CSRs of the hart, words of memory; x0
  -- is 0 and no place that can be started, so it is among them
  pub known : Known
  -- the footprints of all records so far
  pub feet : List Touch
  -- the template's frames and flag bytes
  pub pool : List ℕ
  pub tables : List ℕ
  pub flags : List ℕ
  pub vectors : List ℕ
  -- the values of names that are bound, and the sets of all names
  pub names : ℕ → Option ℕ
  pub sets : ℕ → List ℕ
  -- the records of the harts of lower numbers
  pub others : List (List Record)
  -- the domain of a under the leaf's mandatory atoms alone, whatever biases are kept
  pub sources : ℕ → Bool

-- PAGE TABLE ENTRIES THAT MAY BE STARTED
-- a pointer to a table frame
abbrev pub pointer_to : ℕ → ℕ
pointer_to frame = frame / 2 ^ 12 * 2 ^ 10 + 1

-- a superpage that holds a pool frame, with a flag byte
abbrev pub superpage_at : ℕ → ℕ → ℕ
superpage_at frame flags = frame / 2 ^ 22 * 2 ^ 20 + flags

-- a page that is a pool frame
abbrev pub page_at : ℕ → ℕ → ℕ
page_at frame flags = frame / 2 ^ 12 * 2 ^ 10 + flags

abbrev pub is_first_form : Turn → ℕ → Bool
is_first_form t v = list_any (λ frame. nat_eq (pointer_to frame) v) t.tables || list_any (λ frame. list_any (λ flags. nat_eq (superpage_at frame flags) v) t.flags) t.pool

abbrev pub is_second_form : Turn → ℕ → Bool
is_second_form t v = list_any (λ frame. list_any (λ flags. nat_eq (page_at frame flags) v) t.flags) t.pool

-- WHAT MAY BE STARTED
abbrev pub word_address_of : Place → ℕ
word_address_of (Word addr) = addr
word_address_of (Reg n) = 0
word_address_of (Csr addr) = 0

abbrev pub csr_of : Place → ℕ
csr_of (Csr addr) = addr
csr_of (Reg n) = 0
csr_of (Word addr) = 0

-- stvec, sepc, mtvec and mepc
abbrev pub holds_address : ℕ → Bool
holds_address addr = addr == 0x105 || addr == 0x141 || addr == 0x305 || addr == 0x341

-- the old value that an untouched CSR may be started with: for vectors and return addresses one of the set, and else a legal one
abbrev pub may_be_old : Turn → ℕ → ℕ → Bool
may_be_old t addr v = if holds_address addr then is_in t.vectors v else is_legal_at addr v

-- the instruction writes mstatus, sstatus, medeleg, satp, mcause or scause from a register
abbrev pub is_narrow : Row → ℕ → Bool
is_narrow (CsrRow opcode funct3) addr = addr == 0x300 || addr == 0x100 || addr == 0x302 || addr == 0x180 || addr == 0x342 || addr == 0x142
is_narrow (R opcode funct3 funct7) addr = false
is_narrow (I opcode funct3) addr = false
is_narrow (Shift opcode funct3 funct7) addr = false
is_narrow (S opcode funct3) addr = false
is_narrow (B opcode funct3) addr = false
is_narrow (U opcode) addr = false
is_narrow (J opcode) addr = false
is_narrow (CsrImmediate opcode funct3) addr = false
is_narrow (FenceSets opcode funct3) addr = false
is_narrow (AddressFence opcode funct3 funct7) addr = false
is_narrow (Whole word) addr = false
is_narrow DefinedIllegal addr = false

-- at most 4,096 values pass
unfoldable pub is_small : (ℕ → Bool) → Bool
is_small test = nat_le (length (elements_of test)) 4096

-- an untouched source register may be started
abbrev pub may_be_source : Turn → Instr → Bool
may_be_source t i = not (is_narrow (row_of i.op) i.csr) || is_small t.sources

-- what an untouched place may be started for, by what it is asked for
abbrev pub may_be_for : Turn → Instr → Label → Place → ℕ → Bool
may_be_for t i FetchRoot place v = in_frames t.tables (word_address_of place) && is_first_form t v
may_be_for t i FetchSecond place v = in_frames t.tables (word_address_of place) && is_second_form t v
may_be_for t i Fetched place v = in_frames t.pool (word_address_of place)
may_be_for t i FromRs1 place v = may_be_source t i
may_be_for t i FromRs2 place v = true
may_be_for t i FromCsr place v = may_be_old t (csr_of place) v
may_be_for t i DataRoot place v = in_frames t.tables (word_address_of place) && is_first_form t v
may_be_for t i DataSecond place v = in_frames t.tables (word_address_of place) && is_second_form t v
may_be_for t i DataWord place v = in_frames t.pool (word_address_of place)
may_be_for t i FromVector place v = is_in t.vectors v

-- an untouched place may be started with a value, which is a word
abbrev pub may_start : Turn → Instr → Label → Place → ℕ → Bool
may_start t i label place v = nat_lt v (2 ^ 32) && may_be_for t i label place v

-- RACES WITH WHAT WAS TOUCHED
-- no touch of the list breaks with an access of this hart
abbrev pub is_free : Turn → Access → Bool
is_free t x = not (list_any (λ touch. covers x touch.byte && breaks (nat_eq touch.hart t.fixed.number) touch.role x.role) t.feet)

abbrev pub is_free_access : Turn → Option Access → Bool
is_free_access t None = true
is_free_access t (Some x) = is_free t x

abbrev pub is_free_entry : Turn → Entry → Bool
is_free_entry t e = is_free_access t (access_of e.question e.value)
