-- What a caller sees of a test that is being made.
use Rattle.rv_script.specs.declared.access.Role.{Role}
use Rattle.std.specs.Prelude.{◌≡◌, ℕ, ◌/◌, ◌<◌, true, false, length, replicate, List, [], ◌∷◌, ◌++◌, Option, Some, None, slice_set, slice_index_or, nat_eq, if◌then◌else◌}
use Rattle.rv_csr.specs.declared.privilege.Priv.{Priv}
use Rattle.rv_csr.specs.declared.privilege.Priv.TheVariants.{M}
use Rattle.rv_csr.specs.State.{CsrValues, first_values, started, is_untouched}
use Rattle.rv_mem.specs.declared.words.Seen.{Seen}
use Rattle.rv_mem.specs.declared.words.Seen.TheVariants.{Known as KnownWord, Untouched, Vacant}
use Rattle.rv_hart.specs.declared.hart.Hart.{Hart}
use Rattle.rv_hart.specs.declared.record.Record.{Record}
use Rattle.tpl_admit.specs.declared.dropped.Dropped.{Dropped}
use Rattle.rv_mem.specs.Seen.{is_there}
use Rattle.rv_mem.specs.Ram.{in_ram}
use Rattle.std.specs.Option.{option_or}
use Rattle.rv_script.specs.declared.access.Access.{Access}
use Rattle.rv_script.specs.Folds.{Known, Answer, Answer.Does as DoesSo, answer_on}
use Rattle.rv_hart.specs.declared.record.Change.{Change}
use Rattle.rv_hart.specs.Changes.{csrs_after, privilege_after}
use Rattle.rv_hart.specs.Effects.{seen_after}
use Rattle.rv_hart.specs.Fixed.{Fixed, fixed_by}
use Rattle.rv_hart.specs.Machine.{script}
use Rattle.rv_hart.specs.Registers.{written}
use Rattle.rv_hart.specs.View.{known_by}
use Rattle.rv_hart.specs.Whole.{record_of}
use Rattle.part_machine.specs.Notes.{Feet, touched, with_seen}

-- a hart by its values
pub record Bare : Type 0 where
  pub pc : ℕ
  pub privilege : Priv
  pub regs : List (Option ℕ)
  pub csrs : CsrValues

abbrev pub bare : Hart → Bare
bare h = record { pc = h.pc; privilege = h.privilege; regs = h.regs; csrs = h.csrs }

-- RAM; the start, with the words that were given, as pairs of number and value in the order in which they were; the records of each hart; where the
-- harts stand and what is seen of memory, and which hart touched which byte in which role; the values of the names, the choices, and the biases that
-- were dropped
pub record Whole : Type 0 where
  pub ram : List (ℕ × ℕ)
  pub first : List Bare
  pub words : List (ℕ × ℕ)
  pub traces : List (List Record)
  pub harts : List Bare
  pub memory : ℕ → Seen
  pub feet : Feet
  pub names : List (Option ℕ)
  pub choices : List ℕ
  pub dropped : List Dropped

-- the whole of now, and the earlier ones, the oldest first
pub record History : Type 0 where
  pub now : Whole
  pub earlier : List Whole

-- all wholes, the present one last
abbrev pub wholes : History → List Whole
wholes h = h.earlier ++ h.now ∷ []

-- a name gets its value
abbrev pub named : ℕ → ℕ → Whole → Whole
named name value w = record w { names = slice_set w.names name (Some value) }

abbrev pub chosen : ℕ → Whole → Whole
chosen way w = record w { choices = w.choices ++ way ∷ [] }

abbrev pub with_dropped : Dropped → Whole → Whole
with_dropped d w = record w { dropped = w.dropped ++ d ∷ [] }

-- THE PLACES

abbrev pub no_hart : Bare
no_hart = record { pc = 0; privilege = M; regs = []; csrs = first_values 0 0 0 0 }

-- hart k at the start, and now
abbrev pub first_of : ℕ → Whole → Bare
first_of k w = slice_index_or w.first k no_hart

abbrev pub hart_of : ℕ → Whole → Bare
hart_of k w = slice_index_or w.harts k no_hart

-- there is a hart with this number
pub record HasHart (k : ℕ) (w : Whole) : Type 0 where
  pub first : k < length w.first
  pub now : k < length w.harts
  pub trace : k < length w.traces

abbrev pub with_register : ℕ → ℕ → Bare → Bare
with_register n v h = record h { regs = slice_set h.regs n (Some v) }

abbrev pub with_csr : ℕ → ℕ → Bare → Bare
with_csr addr v h = record h { csrs = started addr v h.csrs }

-- a register of hart k has this first value
abbrev pub register_given : ℕ → ℕ → ℕ → Whole → Whole
register_given k n v w = record w {
  first = slice_set w.first k (with_register n v (first_of k w));
  harts = slice_set w.harts k (with_register n v (hart_of k w));
}

-- a lazy CSR of hart k has this first value
abbrev pub csr_given : ℕ → ℕ → ℕ → Whole → Whole
csr_given k addr v w = record w {
  first = slice_set w.first k (with_csr addr v (first_of k w));
  harts = slice_set w.harts k (with_csr addr v (hart_of k w));
}

-- no value was given to a lazy CSR
pub record IsCsrUntouched (k addr : ℕ) (w : Whole) : Type 0 where
  pub first : is_untouched (first_of k w).csrs addr ≡ true
  pub now : is_untouched (hart_of k w).csrs addr ≡ true

-- the value that a list of pairs of number and value gives to a word
abbrev pub given : List (ℕ × ℕ) → ℕ → Option ℕ
given [] n = None
given (e ∷ es) n = option_or (given es n) (if nat_eq n e.0 then Some e.1 else None)

-- the word at an address has this first value
abbrev pub word_given : ℕ → ℕ → Whole → Whole
word_given addr v w = record w { words = w.words ++ (addr / 4, v) ∷ []; memory = with_seen (addr / 4) (KnownWord v) w.memory }

-- THE STEPS

-- what is known of a hart and of memory, as a step asks for it
abbrev pub known_in : Bare → (ℕ → Seen) → Known
known_in h at = known_by h.regs h.csrs at

abbrev pub fixed_in : Bare → (ℕ → Seen) → Fixed
fixed_in h at = fixed_by h.pc h.privilege h.csrs (λ n. is_there (at n))

-- what the next step of a hart does, or the place that it lacks, or that there is none
abbrev pub next_in : Bare → (ℕ → Seen) → Answer Access Change
next_in h at = answer_on (known_in h at) (script (fixed_in h at))

abbrev pub next_of : ℕ → Whole → Answer Access Change
next_of k w = next_in (hart_of k w) w.memory

-- the record of it
abbrev pub record_in : Bare → (ℕ → Seen) → List Access → Change → Record
record_in h at xs c = record_of (fixed_in h at) xs c

-- a hart after a change
abbrev pub bare_after : Change → Bare → Bare
bare_after c h = record {
  pc = c.next_pc;
  privilege = privilege_after h.privilege h.csrs.mstatus h.csrs.medeleg c.control;
  regs = written c.rd h.regs;
  csrs = csrs_after h.privilege h.pc c.control h.csrs;
}

abbrev pub records_of : ℕ → Whole → List Record
records_of k w = slice_index_or w.traces k []

-- room was taken for a record: it stands in its hart's records, and its accesses in the footprints
abbrev pub prepared : ℕ → Record → Whole → Whole
prepared k r w = record w { traces = slice_set w.traces k (records_of k w ++ r ∷ []); feet = touched k r.accesses w.feet }

-- hart k did a step
abbrev pub stepped : ℕ → List Access → Change → Whole → Whole
stepped k xs c w = record w {
  traces = slice_set w.traces k (records_of k w ++ record_in (hart_of k w) w.memory xs c ∷ []);
  harts = slice_set w.harts k (bare_after c (hart_of k w));
  memory = seen_after xs w.memory;
  feet = touched k xs w.feet;
}

-- the next step of hart k is told on what is known
pub record IsReady (k : ℕ) (w : Whole) : Type 0 where
  pub accesses : List Access
  pub change : Change
  pub does : next_of k w ≡ DoesSo accesses change

-- THE BEGINNING

-- harts that did nothing yet, over a memory of which no word is known
pub record IsNew (harts : List Bare) (ram : List (ℕ × ℕ)) (names : ℕ) (w : Whole) : Type 0 where
  pub ram_is : w.ram ≡ ram
  pub first : w.first ≡ harts
  pub now : w.harts ≡ harts
  pub words : w.words ≡ []
  pub memory : (n : ℕ) → w.memory n ≡ (if in_ram ram n then Untouched else Vacant)
  pub traces : w.traces ≡ replicate (length harts) []
  pub feet : (b h : ℕ) (r : Role) → w.feet b h r ≡ false
  pub names_are : w.names ≡ replicate names None
  pub choices : w.choices ≡ []
  pub dropped : w.dropped ≡ []
