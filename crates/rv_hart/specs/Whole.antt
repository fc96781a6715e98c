-- The step of a whole hart on a whole memory.
use Rattle.std.specs.Prelude.{ℕ, ◌/◌, nat_eq, if◌then◌else◌, List, Option, Some, None}
use Rattle.std.specs.Option.{unwrap_or}
use Rattle.rv_csr.specs.Table.{csr_key}
use Rattle.rv_script.specs.declared.access.Access.{Access}
use Rattle.rv_script.specs.declared.place.Place.{Place}
use Rattle.rv_script.specs.declared.place.Place.TheVariants.{Reg, Csr, Word}
use Rattle.rv_script.specs.Script.{place_of}
use Rattle.rv_script.specs.Folds.{Sight, result_of, accesses_of, needs_of}
use Rattle.rv_hart.specs.declared.record.Change.{Change}
use Rattle.rv_hart.specs.declared.record.Record.{Record}
use Rattle.rv_hart.specs.Changes.{fixed_after, outcome_of, writes_of}
use Rattle.rv_hart.specs.Fixed.{Fixed}
use Rattle.rv_hart.specs.Machine.{script}

-- a hart of which all is known: registers and lazy CSRs by the keys of their places, a register's number or the key of a CSR's address
pub record WholeHart : Type 0 where
  pub fixed : Fixed
  pub file : ℕ → ℕ

-- the value of each place; x0 is 0, and a word of memory stands at its number
abbrev pub value_at : (ℕ → ℕ) → (ℕ → ℕ) → Place → ℕ
value_at file words (Reg n) = if nat_eq n 0 then 0 else file n
value_at file words (Csr addr) = file (csr_key addr)
value_at file words (Word addr) = words (addr / 4)

abbrev pub sight_of : (ℕ → ℕ) → (ℕ → ℕ) → Sight
sight_of file words q = value_at file words (place_of q)

-- the record of a step
abbrev pub record_of : Fixed → List Access → Change → Record
record_of f accesses c = record {
  pc = f.pc;
  privilege = f.privilege;
  word = c.word;
  outcome = outcome_of f c.control;
  rd = c.rd;
  accesses = accesses;
  next_pc = c.next_pc;
}

-- what a step records, and what it does to its hart: the fixed parts after it, and the values that it gives to registers and lazy CSRs, by
-- their keys; what it does to memory is what its accesses do
pub record Step : Type 0 where
  pub did : Record
  pub fixed : Fixed
  pub writes : ℕ → Option ℕ

-- the step of a change
abbrev pub step_by : Fixed → List Access → Change → Step
step_by f accesses c = record { did = record_of f accesses c; fixed = fixed_after f c; writes = writes_of f c }

abbrev pub planned : Fixed → List Access → Option Change → Option Step
planned f accesses None = None
planned f accesses (Some c) = Some (step_by f accesses c)

-- the step where the words that each question sees are those of a sight
abbrev pub sighted_step_of : Fixed → Sight → Option Step
sighted_step_of f see = planned f (accesses_of (script f) see) (result_of (script f) see)

-- one instruction or one trap, or none where the machine has none
abbrev pub step_of : WholeHart → (ℕ → ℕ) → Option Step
step_of h words = sighted_step_of h.fixed (sight_of h.file words)

-- the places on which the step rests, in order
abbrev pub needed_places : WholeHart → (ℕ → ℕ) → List Place
needed_places h words = needs_of (script h.fixed) (sight_of h.file words)

-- the values after these were written
abbrev pub file_after : (ℕ → Option ℕ) → (ℕ → ℕ) → ℕ → ℕ
file_after writes file key = unwrap_or (writes key) (file key)

abbrev pub hart_after : Step → WholeHart → WholeHart
hart_after s h = record { fixed = s.fixed; file = file_after s.writes h.file }
