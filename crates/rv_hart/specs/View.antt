-- The code's harts and answers as the machine's.
use Rattle.std.specs.Prelude.{ℕ, ◌/◌, List, [], Option, Some, None, slice_index_or}
use Rattle.rv_csr.specs.State.{CsrValues, lazy_value_at}
use Rattle.rv_mem.specs.declared.words.Seen.{Seen}
use Rattle.rv_mem.specs.Seen.{known_word, is_there}
use Rattle.rv_script.specs.declared.access.Access.{Access}
use Rattle.rv_script.specs.declared.place.Place.TheVariants.{Reg, Csr, Word}
use Rattle.rv_script.specs.Folds.{Known, Answer, Answer.Does as DoesSo, Answer.Missing as Lacks, Answer.Nowhere}
use Rattle.rv_hart.specs.declared.hart.Hart.{Hart}
use Rattle.rv_hart.specs.declared.record.Change.{Change}
use Rattle.rv_hart.specs.declared.record.Control.{Control}
use Rattle.rv_hart.specs.declared.record.Control.TheVariants.{Stay}
use Rattle.rv_hart.specs.declared.record.Stepped.{Stepped}
use Rattle.rv_hart.specs.declared.record.Stepped.TheVariants.{Did, Missing, Outside}
use Rattle.rv_hart.specs.declared.looked.Looked.{Looked}
use Rattle.rv_hart.specs.declared.looked.Looked.TheVariants.{Does, Missing as LooksMissing, Outside as LooksOutside}
use Rattle.rv_hart.specs.Registers.{written}
use Rattle.rv_hart.specs.Fixed.{Fixed, fixed_by}
use Rattle.rv_hart.specs.Whole.{record_of}

-- what is known of these registers and CSRs, and of memory, whose words go by their numbers
abbrev pub known_by : List (Option ℕ) → CsrValues → (ℕ → Seen) → Known
known_by regs csrs at (Reg n) = slice_index_or regs n None
known_by regs csrs at (Csr addr) = lazy_value_at csrs addr
known_by regs csrs at (Word addr) = known_word (at (addr / 4))

abbrev pub known : Hart → (ℕ → Seen) → Known
known h at = known_by h.regs h.csrs at

abbrev pub fixed_of : Hart → (ℕ → Seen) → Fixed
fixed_of h at = fixed_by h.pc h.privilege h.csrs (λ n. is_there (at n))

abbrev pub looked : List Access → Looked → Answer Access Change
looked log (Does c) = DoesSo log c
looked log (LooksMissing place) = Lacks place
looked log LooksOutside = Nowhere

-- an answer as `step` gives it
abbrev pub shown : Fixed → Answer Access Change → Stepped
shown f (DoesSo accesses c) = Did (record_of f accesses c)
shown f (Lacks place) = Missing place
shown f Nowhere = Outside

abbrev pub pc_after : Stepped → ℕ → ℕ
pc_after (Did r) pc = r.next_pc
pc_after _ pc = pc

abbrev pub regs_after : Stepped → List (Option ℕ) → List (Option ℕ)
regs_after (Did r) regs = written r.rd regs
regs_after _ regs = regs

-- what is done to the hart, where something is
abbrev pub change_in : Answer Access Change → Option Change
change_in (DoesSo accesses c) = Some c
change_in (Lacks place) = None
change_in Nowhere = None

abbrev pub control_of : Option Change → Control
control_of None = Stay
control_of (Some c) = c.control

-- what is done to privilege and CSRs
abbrev pub control_in : Answer Access Change → Control
control_in answer = control_of (change_in answer)

abbrev pub accesses_in : Stepped → List Access
accesses_in (Did r) = r.accesses
accesses_in (Missing place) = []
accesses_in Outside = []
