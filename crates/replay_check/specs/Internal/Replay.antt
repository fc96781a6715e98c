-- How the steps of a hart on what is known are those of the whole hart with zero elsewhere.
use Rattle.std.specs.Prelude.{◌≡◌, ℕ, ◌<◌, List, length, Option, slice_index_or}
use Rattle.rv_hart.specs.declared.hart.Hart.{Hart}
use Rattle.rv_hart.specs.declared.record.Record.{Record}
use Rattle.rv_hart.specs.Whole.{Step, hart_after}
use Rattle.tpl_ast.specs.declared.template.Region.{Region}
use Rattle.tpl_admit.specs.declared.certificate.Cert.{Cert}
use Rattle.tpl_ast.specs.declared.template.HartState.{HartState}
use Rattle.tpl_admit.specs.Starts.{start_of, trace_of, is_given}
use Rattle.tpl_admit.specs.Solo.{solo, solo_run, knows_also, knows_after, IsRight, AreRight}
use Rattle.replay_check.specs.Failures.{IsWrong, GoesWrong, AllAreRight, AllEndAsPrinted}
use Rattle.tpl_admit.specs.Validity.{EndsAsPrinted, MemoryEndsAsPrinted}
use Rattle.given_start.specs.Knowledge.{knows_of, whole_of}
use Rattle.replay_check.specs.Internal.Memory.{AreInWords}

-- two records are the same, field by field
pub record IsSameChange (a b : Record) : Type 0 where
  pub outcome : a.outcome ≡ b.outcome
  pub rd : a.rd ≡ b.rd
  pub next_pc : a.next_pc ≡ b.next_pc

pub record IsSameRecord (a b : Record) : Type 0 where
  pub pc : a.pc ≡ b.pc
  pub privilege : a.privilege ≡ b.privilege
  pub word : a.word ≡ b.word
  pub change : IsSameChange a b
  pub accesses : a.accesses ≡ b.accesses

-- the hart makes the step of a record on this memory
pub record Takes (ram : List Region) (given : ℕ → Option ℕ) (memory : ℕ → ℕ) (h new : Hart) (r : Record) : Type 0 where
  pub step : Step
  pub right : IsRight given (knows_of h) (whole_of ram h) memory r step
  pub hart : whole_of ram new ≡ hart_after step (whole_of ram h)
  pub knows : knows_of new ≡ knows_also step.writes (knows_of h)

-- the hart's step isn't that of a record
abbrev pub Strays : List Region → (ℕ → Option ℕ) → (ℕ → ℕ) → Hart → Record → ℕ → Type 0
Strays ram given memory h r kind = IsWrong given (knows_of h) (whole_of ram h) memory r kind

-- the hart's steps are those of the records, and lead to this hart
pub record TakesAll (ram : List Region) (given : ℕ → Option ℕ) (memory : ℕ → ℕ) (h new : Hart) (rs : List Record) : Type 0 where
  pub right : AreRight given (knows_of h) (whole_of ram h) memory rs
  pub hart : (solo (length rs) (whole_of ram h) memory).hart ≡ whole_of ram new
  pub knows : knows_after (knows_of h) (solo (length rs) (whole_of ram h) memory).steps ≡ knows_of new

abbrev pub StraysAt : List Region → (ℕ → Option ℕ) → (ℕ → ℕ) → Hart → List Record → ℕ → ℕ → Type 0
StraysAt ram given memory h rs kind step = GoesWrong given (knows_of h) (whole_of ram h) memory rs 0 kind step

-- hart k of a certificate, alone, is in the end just what is known of this hart
pub record EndsAs (c : Cert) (k : ℕ) (h : Hart) : Type 0 where
  pub hart : (solo_run c k).hart ≡ whole_of c.template.ram h
  pub knows : knows_after (is_given (start_of c k)) (solo_run c k).steps ≡ knows_of h

-- each hart of a certificate, alone, is in the end just what is known of the one with its number
abbrev pub AllEndAs : Cert → List Hart → Type 0
AllEndAs c harts = (length harts ≡ length c.start) × ((k : ℕ) (d : Hart) → k < length c.start → EndsAs c k (slice_index_or harts k d))

-- hart k does not end as is printed, and those before it do
pub record EndsOtherwise (c : Cert) (k : ℕ) : Type 0 where
  pub there : k < length c.start
  pub before : (j : ℕ) → j < k → EndsAsPrinted c j
  pub wrong : EndsAsPrinted c k → ⊥

-- the fixed parts of a hart with this number are those of a state
pub record IsFixedTold (s : HartState) (k : ℕ) (h : Hart) : Type 0 where
  pub pc : s.pc ≡ h.pc
  pub privilege : s.privilege ≡ h.privilege
  pub mstatus : s.mstatus ≡ h.csrs.mstatus
  pub medeleg : s.medeleg ≡ h.csrs.medeleg
  pub satp : s.satp ≡ h.csrs.satp
  pub number : h.csrs.hart ≡ k

-- each hart alone does what is printed, and harts and memory end as is printed
pub record IsReplayed (c : Cert) : Type 0 where
  pub steps : AllAreRight c
  pub ends : AllEndAsPrinted c
  pub memory : MemoryEndsAsPrinted c
  pub words : (k : ℕ) → AreInWords (trace_of c k)
