-- Which of a candidate's values each of its new places has, told from the place and the values; and what its step keeps.
use Rattle.std.specs.Prelude.{◌≡◌, ℕ, ◌%◌, ◌<◌, ◌⊎◌, Bool, false, not, ◌&&◌, nat_eq, if◌then◌else◌, List, Some}
use Rattle.rv_isa.specs.declared.instruction.Instr.{Instr}
use Rattle.rv_isa.specs.Encoding.{Fits, word_of}
use Rattle.rv_isa.specs.Table.{row_of}
use Rattle.rv_csr.specs.declared.table.Register.{Register}
use Rattle.rv_csr.specs.declared.table.Register.TheVariants.{Sstatus, Satp, Mstatus, Medeleg, Mhartid, Lazy}
use Rattle.rv_script.specs.declared.place.Place.{Place}
use Rattle.rv_script.specs.declared.place.Place.TheVariants.{Reg, Csr, Word}
use Rattle.rv_script.specs.Folds.{Entry, Known}
use Rattle.rv_script.specs.Logs.{value_or}
use Rattle.sv_walk.specs.Entry.{is_invalid, is_pointer}
use Rattle.sv_walk.specs.Translation.{is_translated, root_address, second_address}
use Rattle.rv_hart.specs.declared.record.Control.{Control}
use Rattle.rv_hart.specs.declared.record.Control.TheVariants.{Stay, Write, Trap, Mret, Sret}
use Rattle.rv_hart.specs.Machine.{data_view}
use Rattle.fd_prob.specs.declared.slot.Slot.TheVariants as slots
use Rattle.tpl_ast.specs.declared.template.Atom.{Atom}
use Rattle.leaf_link.specs.Turns.{Turn}
use Rattle.leaf_link.specs.Values.{Values, has_csr_operand, instr_in}
use Rattle.leaf_link.specs.Candidates.{IsCandidate}
use Rattle.leaf_link.specs.Ways.{AreWords, IsFetched}
use Rattle.leaf_link.specs.Problems.{key_of}

-- what the root entry of the values' address holds: it is known, or their new one
abbrev pub root_entry : Turn → Values → ℕ
root_entry t x = value_or (t.known (Word (root_address (data_view t.fixed) (x slots.Ea)))) (x slots.FirstPte)

-- an entry leads to a table, and this is the address of the second entry there
abbrev pub is_second : ℕ → ℕ → ℕ → Bool
is_second ea entry addr = (not (is_invalid entry) && is_pointer entry) && nat_eq addr (second_address ea entry)

-- where a data access is translated, a word is the root entry of its address, the second one behind it, or the data word
abbrev pub data_value : Turn → Values → ℕ → ℕ
data_value t x addr =
    if is_translated (data_view t.fixed)
    then (if nat_eq addr (root_address (data_view t.fixed) (x slots.Ea)) then x slots.FirstPte else if is_second (x slots.Ea) (root_entry t x) addr then x slots.SecondPte else x slots.DataWord)
    else x slots.DataWord

-- where the fetched word stands at `pa`: a word is the fetched one or of the data access, a register is rs1 or else rs2, a CSR is the vector of a trap, or else the one that is
-- read
abbrev pub place_value : Turn → Values → ℕ → Place → ℕ
place_value t x pa (Word addr) = if nat_eq addr pa then word_of (instr_in x) else data_value t x addr
place_value t x pa (Reg n) = if nat_eq n (x slots.Rs1) then x slots.A else x slots.B
place_value t x pa (Csr addr) = if nat_eq (x slots.Vector) 0 then x slots.OldCsr else x slots.Vector

abbrev pub PlacesHaveValues : Type 0
PlacesHaveValues =
    (t : Turn) (walk : List Entry) (pa : ℕ) (leaf : List Atom) (new : Known) → IsFetched t walk pa → AreWords t.known → (w : IsCandidate t leaf new)
    → (place : Place) (v : ℕ) → new place ≡ Some v → v ≡ place_value t (key_of t leaf new w) pa place

-- the fields fit the operation, whose number is one of the table
pub record IsInstruction (x : Values) : Type 0 where
  pub number : x slots.Op < 58
  pub fits : Fits (instr_in x)

-- the values of a candidate are those of an instruction, and it is the candidate's
abbrev pub ValuesAreInstructions : Type 0
ValuesAreInstructions =
    (t : Turn) (leaf : List Atom) (new : Known) → (w : IsCandidate t leaf new) → IsInstruction (key_of t leaf new w) × (instr_in (key_of t leaf new w) ≡ w.instr)

-- a CSR instruction whose register is satp, which it reads or writes
abbrev pub accesses_satp : Instr → Bool
accesses_satp i = has_csr_operand (row_of i.op) && nat_eq i.csr 0x180

abbrev pub IsNotSatp : Register → Type 0
IsNotSatp Sstatus = Unit {0}
IsNotSatp Satp = ⊥
IsNotSatp Mstatus = Unit {0}
IsNotSatp Medeleg = Unit {0}
IsNotSatp Mhartid = Unit {0}
IsNotSatp (Lazy register) = Unit {0}

-- a step does not write satp
abbrev pub KeepsSatp : Control → Type 0
KeepsSatp Stay = Unit {0}
KeepsSatp (Write register value) = IsNotSatp register
KeepsSatp (Trap cause value) = Unit {0}
KeepsSatp Mret = Unit {0}
KeepsSatp Sret = Unit {0}

-- the only steps that write satp are those of CSR instructions with its address
abbrev pub StepsKeepSatp : Type 0
StepsKeepSatp =
    (t : Turn) (walk : List Entry) (pa : ℕ) (leaf : List Atom) (new : Known) → IsFetched t walk pa → (w : IsCandidate t leaf new) → accesses_satp w.instr ≡ false → KeepsSatp w.change.control

-- each new word is that at an address, or one other
pub record AreTwoWords (new : Known) (pa : ℕ) : Type 0 where
  pub other : ℕ
  pub aligned : other % 4 ≡ 0
  pub either : (addr v : ℕ) → new (Word addr) ≡ Some v → (addr ≡ pa) ⊎ (addr ≡ other)

-- each new word is that at an address, or one of three others
pub record AreFourWords (new : Known) (pa : ℕ) : Type 0 where
  pub first : ℕ
  pub second : ℕ
  pub third : ℕ
  pub first_aligned : first % 4 ≡ 0
  pub second_aligned : second % 4 ≡ 0
  pub third_aligned : third % 4 ≡ 0
  pub one : (addr v : ℕ) → new (Word addr) ≡ Some v → (addr ≡ pa) ⊎ ((addr ≡ first) ⊎ ((addr ≡ second) ⊎ (addr ≡ third)))

-- a step starts the fetched word and three others at most: two entries and the data word
abbrev pub NewWordsAreFour : Type 0
NewWordsAreFour = (t : Turn) (walk : List Entry) (pa : ℕ) (leaf : List Atom) (new : Known) → IsFetched t walk pa → (w : IsCandidate t leaf new) → AreFourWords new pa
