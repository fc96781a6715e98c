-- The states of harts, their records and dropped biases, as they stand in the notes.
use Rattle.std.specs.Prelude.{ℕ, List, [], ◌∷◌, ◌++◌, Option, Some, None}
use Rattle.rv_script.specs.declared.access.Access.{Access}
use Rattle.rv_script.specs.declared.access.Role.{Role}
use Rattle.rv_script.specs.declared.access.Role.TheVariants.{Fetch, Walk, Load, Store}
use Rattle.rv_csr.specs.declared.privilege.Priv.{Priv}
use Rattle.rv_csr.specs.declared.privilege.Priv.TheVariants.{U, S, M}
use Rattle.rv_hart.specs.declared.record.Record.{Record}
use Rattle.rv_hart.specs.declared.record.Outcome.{Outcome}
use Rattle.rv_hart.specs.declared.record.Outcome.TheVariants.{Retired, Trap}
use Rattle.tpl_ast.specs.declared.template.HartState.{HartState}
use Rattle.tpl_admit.specs.declared.dropped.Dropped.{Dropped}
use Rattle.tpl_admit.specs.declared.dropped.Why.{Why}
use Rattle.tpl_admit.specs.declared.dropped.Why.TheVariants.{NoneFits, Spent}
use Rattle.byte_format.specs.Numbers.{byte, half, word, pieces, counted}

-- the number of a privilege (Privileged, 1.2)
abbrev pub level : Priv → ℕ
level U = 0
level S = 1
level M = 3

-- key and value, or a name's index and its value
unfoldable pub pair_spelling : ℕ × ℕ → List ℕ
pair_spelling p = word p.0 ++ word p.1

unfoldable pub fixed_spelling : HartState → List ℕ
fixed_spelling s = pieces (word s.pc ∷ word (level s.privilege) ∷ word s.mstatus ∷ word s.medeleg ∷ word s.satp ∷ [])

unfoldable pub state_spelling : HartState → List ℕ
state_spelling s = fixed_spelling s ++ counted pair_spelling s.places

abbrev pub role_number : Role → ℕ
role_number Fetch = 0
role_number Walk = 1
role_number Load = 2
role_number Store = 3

unfoldable pub access_spelling : Access → List ℕ
access_spelling a = pieces (word a.addr ∷ word a.value ∷ byte (role_number a.role) ∷ byte a.size ∷ half 0 ∷ [])

-- the cause of a trap, or 255
abbrev pub outcome_number : Outcome → ℕ
outcome_number Retired = 255
outcome_number (Trap cause value to) = cause

-- the privilege that takes the trap, or 255
abbrev pub taker_number : Outcome → ℕ
taker_number Retired = 255
taker_number (Trap cause value to) = level to

abbrev pub trap_value : Outcome → ℕ
trap_value Retired = 0
trap_value (Trap cause value to) = value

-- the register that was written, or 0
abbrev pub rd_number : Option (ℕ × ℕ) → ℕ
rd_number None = 0
rd_number (Some rd) = rd.0

abbrev pub rd_value : Option (ℕ × ℕ) → ℕ
rd_value None = 0
rd_value (Some rd) = rd.1

unfoldable pub record_place : Record → List ℕ
record_place r = pieces (word r.pc ∷ word r.word ∷ word r.next_pc ∷ [])

unfoldable pub record_marks : Record → List ℕ
record_marks r = pieces (byte (level r.privilege) ∷ byte (outcome_number r.outcome) ∷ byte (taker_number r.outcome) ∷ byte (rd_number r.rd) ∷ [])

unfoldable pub record_values : Record → List ℕ
record_values r = pieces (word (rd_value r.rd) ∷ word (trap_value r.outcome) ∷ [])

unfoldable pub record_spelling : Record → List ℕ
record_spelling r = pieces (record_place r ∷ record_marks r ∷ record_values r ∷ counted access_spelling r.accesses ∷ [])

-- the records of one hart
unfoldable pub trace_spelling : List Record → List ℕ
trace_spelling records = counted record_spelling records

-- why a bias was dropped
abbrev pub why_number : Why → ℕ
why_number NoneFits = 0
why_number Spent = 1

unfoldable pub drop_spelling : Dropped → List ℕ
drop_spelling d = pieces (word d.hart ∷ word d.step ∷ word d.atom ∷ word (why_number d.why) ∷ [])
