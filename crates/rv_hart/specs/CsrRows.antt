-- What a CSR instruction does, in the words of reads and writes of registers.
use Rattle.std.specs.Prelude.{◌≡◌, ℕ, true, false, List, Option, Some, None, if◌then◌else◌}
use Rattle.rv_isa.specs.declared.instruction.Instr.{Instr}
use Rattle.rv_csr.specs.declared.access.Got.{Got}
use Rattle.rv_csr.specs.declared.access.Got.TheVariants.{Value, Denied as ReadDenied}
use Rattle.rv_csr.specs.declared.access.Wrote.{Wrote}
use Rattle.rv_csr.specs.declared.access.Wrote.TheVariants.{Done as Written, Denied as WriteDenied, Outside as WriteOutside}
use Rattle.rv_csr.specs.declared.table.LazyRegister.{LazyRegister}
use Rattle.rv_csr.specs.Access.{access_of, read_of, write_of}
use Rattle.rv_csr.specs.State.{CsrValues, lazy_value}
use Rattle.rv_script.specs.Folds.{Sight, result_of}
use Rattle.rv_script.specs.Script.{Label.FromCsr, Question.OfCsr, Script.Done}
use Rattle.rv_hart.specs.declared.record.Change.{Change}
use Rattle.rv_hart.specs.Changes.{csrs_after}
use Rattle.rv_hart.specs.Fixed.{Fixed, fixed_csrs}
use Rattle.rv_hart.specs.Privileged.{csr_accessed, csr_result, following, lazy_address, rd_told, reads_csr, refused, retired}

-- the CSRs of these fixed parts with these values of the lazy ones
abbrev pub csrs_with : Fixed → List (Option ℕ) → CsrValues
csrs_with f lazy = record (fixed_csrs f) { lazy = lazy }

-- what is seen of each lazy CSR is its value
abbrev pub AreSeen : Sight → CsrValues → Type 0
AreSeen see csrs = (r : LazyRegister) → lazy_value csrs r ≡ Some (see (OfCsr FromCsr (lazy_address r)))

-- the value that a read gives, where it gives one
abbrev pub value_read : Got → ℕ
value_read (Value v) = v
value_read _ = 0

-- the end of an instruction that only reads, by what a read at its address answers: rd has the value, or the instruction is illegal, or there is no step
abbrev pub EndsByRead : Fixed → ℕ → Instr → Sight → Got → Option Change → Type 0
EndsByRead f word i see (Value old) end = end ≡ Some (retired f.pc word (rd_told i.rd old))
EndsByRead f word i see ReadDenied end = end ≡ result_of (refused f word) see
EndsByRead f word i see _ end = end ≡ None

-- the end of one that writes, by its old value and what a write at its address answers: the CSRs are those behind the write, and rd has the old value where that is read
abbrev pub EndsByWrite : Fixed → ℕ → Instr → Sight → CsrValues → ℕ → Wrote × CsrValues → Option Change → Type 0
EndsByWrite f word i see csrs old (Written, next) end =
    (c : Change) × (end ≡ Some c) × (c.word ≡ word) × (c.next_pc ≡ following f.pc)
    × (c.rd ≡ (if reads_csr i then rd_told i.rd old else None)) × (csrs_after f.privilege f.pc c.control csrs ≡ next)
EndsByWrite f word i see csrs old (WriteDenied, next) end = end ≡ result_of (refused f word) see
EndsByWrite f word i see csrs old (WriteOutside, next) end = end ≡ None

-- with its operand, a CSR instruction does what a read, and what a write of its result, do at its address in the hart's privilege
pub record CsrRowsAgree : Type 0 where
  pub read : (f : Fixed) (see : Sight) (lazy : List (Option ℕ)) (word : ℕ) (i : Instr) (operand : ℕ) → AreSeen see (csrs_with f lazy) → reads_csr i ≡ true
      → EndsByRead f word i see (read_of (csrs_with f lazy) i.csr f.privilege) (result_of (csr_accessed f word i false (access_of f.mstatus i.csr f.privilege false) (Done operand)) see)
  pub write : (f : Fixed) (see : Sight) (lazy : List (Option ℕ)) (word : ℕ) (i : Instr) (operand : ℕ) → AreSeen see (csrs_with f lazy)
      → EndsByWrite f word i see (csrs_with f lazy) (value_read (read_of (csrs_with f lazy) i.csr f.privilege))
      (write_of (csrs_with f lazy) i.csr f.privilege (csr_result i.op (value_read (read_of (csrs_with f lazy) i.csr f.privilege)) operand))
      (result_of (csr_accessed f word i true (access_of f.mstatus i.csr f.privilege true) (Done operand)) see)
