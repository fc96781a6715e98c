-- What a step on known places says of whole harts and memories. The words that end in With are of a step that sees sights, and a place whose
-- word has one counts as known; the same words without With are of the step without sights.
use Rattle.std.specs.Prelude.{◌≡◌, ℕ, ◌%◌, ◌^◌, ◌<◌, ◌≤◌, Bool, true, false, ◌&&◌, ◌||◌, nat_lt, All, IsSome, List, length, Option, Some, None}
use Rattle.std.specs.List.{AllByRecursion}
use Rattle.std.specs.Option.{option_or, unwrap_or, is_some}
use Rattle.rv_csr.specs.declared.privilege.Priv.{Priv}
use Rattle.rv_csr.specs.Causes.{is_cause}
use Rattle.rv_csr.specs.State.{CsrValues}
use Rattle.rv_csr.specs.Table.{csr_key}
use Rattle.rv_script.specs.declared.access.Access.{Access}
use Rattle.rv_script.specs.declared.place.Place.{Place}
use Rattle.rv_script.specs.declared.place.Place.TheVariants.{Reg, Csr, Word}
use Rattle.rv_script.specs.Lists.{HasItem}
use Rattle.rv_script.specs.Script.{Question}
use Rattle.rv_script.specs.Folds.{Known, Teller, Sight, Entry, Answer.Does as DoesSo, answer_on, asked_of, first_missing}
use Rattle.rv_script.specs.Laws.{IsSeenAlike}
use Rattle.rv_script.specs.Memory.{memory_after}
use Rattle.rv_hart.specs.declared.record.Change.{Change}
use Rattle.sv_walk.specs.Translation.{is_in_ram}
use Rattle.rv_hart.specs.declared.record.Outcome.{Outcome}
use Rattle.rv_hart.specs.declared.record.Outcome.TheVariants.{Retired, Trap}
use Rattle.rv_hart.specs.declared.record.Record.{Record}
use Rattle.rv_hart.specs.declared.record.Stepped.{Stepped}
use Rattle.rv_hart.specs.declared.record.Stepped.TheVariants.{Did, Missing, Outside}
use Rattle.rv_hart.specs.declared.looked.Looked.{Looked}
use Rattle.rv_hart.specs.declared.looked.Looked.TheVariants.{Does, Missing as LooksMissing, Outside as LooksOutside}
use Rattle.rv_hart.specs.Changes.{IsSoundChange, IsSoundWrite}
use Rattle.rv_hart.specs.Asked.{is_lazy}
use Rattle.rv_hart.specs.Effects.{IsAccess, IsInWord}
use Rattle.rv_hart.specs.Fixed.{Fixed}
use Rattle.rv_hart.specs.Machine.{script}
use Rattle.rv_hart.specs.Sighted.{no_sights, sighted, told_with, seen_with, step_seen_of}
use Rattle.rv_hart.specs.Whole.{WholeHart, value_at, sight_of, Step, step_by, step_of, needed_places, hart_after}

-- a whole hart and memory have these fixed parts and all that is known
pub record Has (f : Fixed) (known : Known) (h : WholeHart) (words : ℕ → ℕ) : Type 0 where
  pub fixed : h.fixed ≡ f
  pub values : (place : Place) (v : ℕ) → known place ≡ Some v → value_at h.file words place ≡ v

-- the first needed place that is not known, or else the record of the step, or else that there is none
abbrev pub stepped_by : Option Place → Option Step → Stepped
stepped_by (Some place) step = Missing place
stepped_by None None = Outside
stepped_by None (Some s) = Did s.did

-- the first place that the step needs, that has no sight and that is not known
abbrev pub first_needed_with : Teller → Known → WholeHart → (ℕ → ℕ) → Option Place
first_needed_with sights known h words = first_missing (told_with sights known) (asked_of (script h.fixed) (seen_with sights (sight_of h.file words)))

abbrev pub first_needed : Known → WholeHart → (ℕ → ℕ) → Option Place
first_needed known h words = first_needed_with no_sights known h words

-- the answer is that of every whole hart and memory that have what is known
abbrev pub IsMachineStepWith : Teller → Fixed → Known → Stepped → Type 0
IsMachineStepWith sights f known result = (h : WholeHart) (words : ℕ → ℕ) → Has f known h words → result ≡ stepped_by (first_needed_with sights known h words) (step_seen_of sights h words)

abbrev pub IsMachineStep : Fixed → Known → Stepped → Type 0
IsMachineStep f known result = IsMachineStepWith no_sights f known result

-- what is told, and zero elsewhere
abbrev pub zero_filled : Teller → Sight
zero_filled tell q = unwrap_or (tell q) 0

-- a question that has a sight does not rest on the state; the others see alike
abbrev pub IsAlike : Option ℕ → Question → ℕ → ℕ → Type 0
IsAlike (Some sight) q v w = Unit {0}
IsAlike None q v w = IsSeenAlike q v w

-- there is one step with this record that each whole hart makes which has these fixed parts and the registers and CSRs that the step asked
-- for, over each memory that has the bytes that it looked at
abbrev pub IsLocal : Teller → Fixed → Known → Record → Type 0
IsLocal sights f known r =
    (s : Step) × (s.did ≡ r)
    × ((h : WholeHart) (words : ℕ → ℕ) → h.fixed ≡ f
    → ((e : Entry) → HasItem (asked_of (script f) (zero_filled (told_with sights known))) e → IsAlike (sights e.question) e.question e.value (sight_of h.file words e.question))
    → step_seen_of sights h words ≡ Some s)

abbrev pub IsLocalStepWith : Teller → Fixed → Known → Stepped → Type 0
IsLocalStepWith sights f known (Did r) = IsLocal sights f known r
IsLocalStepWith sights f known (Missing place) = Unit {0}
IsLocalStepWith sights f known Outside = Unit {0}

abbrev pub IsLocalStep : Fixed → Known → Stepped → Type 0
IsLocalStep f known result = IsLocalStepWith no_sights f known result

-- a register or lazy CSR is written
abbrev pub is_written : (ℕ → Option ℕ) → Place → Bool
is_written writes (Reg n) = nat_lt n 32 && is_some (writes n)
is_written writes (Csr addr) = is_some (writes (csr_key addr))
is_written writes (Word addr) = false

-- from what was known to what is known, by a step
pub record IsDoneWith (sights : Teller) (f : Fixed) (known : Known) (r : Record) (new_f : Fixed) (new_known : Known) : Type 0 where
  pub step : Step
  pub did : step.did ≡ r
  -- each whole hart and memory that have what was known make this step, and with its changes they have what is known
  pub wholes : (h : WholeHart) (words : ℕ → ℕ) → Has f known h words → (step_seen_of sights h words ≡ Some step) × Has new_f new_known (hart_after step h) (memory_after r.accesses words)
  pub fixed : step.fixed ≡ new_f
  -- known are the places that were known, and those that were written
  pub places : (place : Place) → is_some (new_known place) ≡ (is_written step.writes place || is_some (known place))
  -- what is known of a register or CSR is what was written, or else what was known
  pub registers : (n : ℕ) → n < 32 → new_known (Reg n) ≡ option_or (step.writes n) (known (Reg n))
  pub csrs : (addr : ℕ) → new_known (Csr addr) ≡ option_or (step.writes (csr_key addr)) (known (Csr addr))

abbrev pub IsDone : Fixed → Known → Record → Fixed → Known → Type 0
IsDone f known r new_f new_known = IsDoneWith no_sights f known r new_f new_known

-- from what was known to what is known, where nothing was done
pub record IsKept (f : Fixed) (known : Known) (new_f : Fixed) (new_known : Known) : Type 0 where
  pub fixed : new_f ≡ f
  pub places : (place : Place) → new_known place ≡ known place

abbrev pub IsAfterWith : Teller → Fixed → Known → Stepped → Fixed → Known → Type 0
IsAfterWith sights f known (Did r) new_f new_known = IsDoneWith sights f known r new_f new_known
IsAfterWith sights f known (Missing place) new_f new_known = IsKept f known new_f new_known
IsAfterWith sights f known Outside new_f new_known = IsKept f known new_f new_known

abbrev pub IsAfter : Fixed → Known → Stepped → Fixed → Known → Type 0
IsAfter f known result new_f new_known = IsAfterWith no_sights f known result new_f new_known

-- what would be done can be done, and leaves a hart as it must be
abbrev pub IsSound : Priv → CsrValues → Looked → Type 0
IsSound from csrs (Does c) = IsSoundChange from csrs c
IsSound from csrs (LooksMissing place) = Unit {0}
IsSound from csrs LooksOutside = Unit {0}

-- the pc stays a multiple of 4, x0 is never written, and accesses keep to words
pub record IsSoundRecord (r : Record) : Type 0 where
  pub pc : r.next_pc % 4 ≡ 0
  pub rd : IsSoundWrite r.rd
  pub accesses : All IsInWord r.accesses

abbrev pub IsSoundStep : Stepped → Type 0
IsSoundStep (Did r) = IsSoundRecord r
IsSoundStep (Missing place) = Unit {0}
IsSoundStep Outside = Unit {0}

-- x1 to x31, a lazy CSR, or an aligned word of RAM: a place to which a start can give a value
abbrev pub CanBeGiven : (ℕ → Bool) → Place → Type 0
CanBeGiven ram (Reg n) = (1 ≤ n) × (n < 32)
CanBeGiven ram (Csr addr) = is_lazy addr ≡ true
CanBeGiven ram (Word addr) = (addr % 4 ≡ 0) × (is_in_ram ram addr ≡ true)

-- a trap has one of the causes, and its trap value is a word
abbrev pub IsFitOutcome : Outcome → Type 0
IsFitOutcome Retired = Unit {0}
IsFitOutcome (Trap cause value to) = (is_cause cause ≡ true) × (value < 2 ^ 32)

-- no register is written, or one of x1 to x31 with a word
abbrev pub IsFitWrite : Option (ℕ × ℕ) → Type 0
IsFitWrite None = Unit {0}
IsFitWrite (Some rd) = (1 ≤ rd.0) × (rd.0 < 32) × (rd.1 < 2 ^ 32)

-- what can stand in a file: words of 32 bits, and at most eight accesses
pub record IsFitRecord (r : Record) : Type 0 where
  pub pc : r.pc < 2 ^ 32
  pub word : r.word < 2 ^ 32
  pub next_pc : r.next_pc < 2 ^ 32
  pub outcome : IsFitOutcome r.outcome
  pub rd : IsFitWrite r.rd
  pub accesses : AllByRecursion IsAccess r.accesses
  pub count : length r.accesses ≤ 8

-- what was done can stand in a file, and a start can give a value to what is missing, which has none
abbrev pub IsFitStep : Fixed → Known → Stepped → Type 0
IsFitStep f known (Did r) = IsFitRecord r
IsFitStep f known (Missing place) = CanBeGiven f.ram place × (known place ≡ None)
IsFitStep f known Outside = Unit {0}

-- a whole hart makes the step of a change, and needs no place that is not known
pub record Takes (f : Fixed) (known : Known) (h : WholeHart) (words : ℕ → ℕ) (accesses : List Access) (c : Change) : Type 0 where
  pub step : step_of h words ≡ Some (step_by f accesses c)
  pub needs : (place : Place) → HasItem (needed_places h words) place → IsSome (known place)

-- what is told on known places is what each whole hart and memory that have them do
abbrev pub ToldAreTaken : Type 0
ToldAreTaken = (f : Fixed) (known : Known) (h : WholeHart) (words : ℕ → ℕ) (accesses : List Access) (c : Change) → Has f known h words
    → answer_on known (script f) ≡ DoesSo accesses c → Takes f known h words accesses c

-- sights that show what memory holds change nothing
abbrev pub TrueSightsShowTheStep : Type 0
TrueSightsShowTheStep = (sights : Teller) (h : WholeHart) (words : ℕ → ℕ) → ((q : Question) (v : ℕ) → sights q ≡ Some v → sight_of h.file words q ≡ v) → step_seen_of sights h words ≡ step_of h words

-- a step without sights is the step
abbrev pub IsSightless : Type 0
IsSightless = (h : WholeHart) (words : ℕ → ℕ) → step_seen_of (sighted (λ role addr. None)) h words ≡ step_of h words
