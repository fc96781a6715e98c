-- One hart alone, from the start with zero elsewhere.
use Rattle.std.specs.Prelude.{◌≡◌, ℕ, zero, suc, ◌/◌, Bool, true, nat_eq, ◌||◌, List, [], ◌∷◌, length, Option, Some, None}
use Rattle.std.specs.Option.{is_some}
use Rattle.rv_script.specs.declared.place.Place.{Place}
use Rattle.rv_script.specs.declared.place.Place.TheVariants.{Reg, Csr, Word}
use Rattle.rv_script.specs.Lists.{HasItem}
use Rattle.rv_script.specs.Memory.{memory_after}
use Rattle.rv_csr.specs.Table.{csr_key}
use Rattle.rv_hart.specs.declared.record.Record.{Record}
use Rattle.rv_hart.specs.Whole.{WholeHart, Step, step_of, needed_places, hart_after}
use Rattle.tpl_admit.specs.declared.certificate.Cert.{Cert}
use Rattle.tpl_admit.specs.Starts.{start_of, trace_of, word_of, first_hart, first_memory, is_given}

-- one step, and the state before it
pub record SoloStep : Type 0 where
  pub hart : WholeHart
  pub memory : ℕ → ℕ
  pub step : Step

pub record Solo : Type 0 where
  pub steps : List SoloStep
  pub hart : WholeHart

abbrev pub solo_on : Option Step → WholeHart → (ℕ → ℕ) → (WholeHart → (ℕ → ℕ) → Solo) → Solo
solo_on None h words rest = record { steps = []; hart = h }
solo_on (Some s) h words rest =
    let r = rest (hart_after s h) (memory_after s.did.accesses words) in
    record { steps = record { hart = h; memory = words; step = s } ∷ r.steps; hart = r.hart }

-- so many steps of one hart, or as many as it has
abbrev pub solo : ℕ → WholeHart → (ℕ → ℕ) → Solo
solo zero h words = record { steps = []; hart = h }
solo (suc n) h words = solo_on (step_of h words) h words (λ h' words'. solo n h' words')

-- as many steps of hart k as it has records
abbrev pub solo_run : Cert → ℕ → Solo
solo_run c k = solo (length (trace_of c k)) (first_hart c k) (first_memory c)

-- a place has a value that was given or written; x0 always has
abbrev pub is_set : (ℕ → Bool) → (ℕ → Option ℕ) → Place → Bool
is_set knows words (Reg n) = nat_eq n 0 || knows n
is_set knows words (Csr addr) = knows (csr_key addr)
is_set knows words (Word addr) = is_some (words (addr / 4))

-- the keys that are known after these values were written
abbrev pub knows_also : (ℕ → Option ℕ) → (ℕ → Bool) → ℕ → Bool
knows_also writes knows key = is_some (writes key) || knows key

-- each step rests on what was given or written before it
abbrev pub AreInitialised : (ℕ → Option ℕ) → (ℕ → Bool) → List SoloStep → Type 0
AreInitialised words knows [] = Unit {0}
AreInitialised words knows (x ∷ xs) =
    ((place : Place) → HasItem (needed_places x.hart x.memory) place → is_set knows words place ≡ true) × AreInitialised words (knows_also x.step.writes knows) xs

abbrev pub IsInitialised : Cert → ℕ → Type 0
IsInitialised c k = AreInitialised (word_of c) (is_given (start_of c k)) (solo_run c k).steps

-- the keys that are known in the end
abbrev pub knows_after : (ℕ → Bool) → List SoloStep → ℕ → Bool
knows_after knows [] = knows
knows_after knows (x ∷ xs) = knows_after (knows_also x.step.writes knows) xs

-- each place that the step needs was given or written
abbrev pub AreSet : (ℕ → Option ℕ) → (ℕ → Bool) → WholeHart → (ℕ → ℕ) → Type 0
AreSet words knows h memory = (place : Place) → HasItem (needed_places h memory) place → is_set knows words place ≡ true

-- the step is as its record says
pub record IsRight (words : ℕ → Option ℕ) (knows : ℕ → Bool) (h : WholeHart) (memory : ℕ → ℕ) (r : Record) (s : Step) : Type 0 where
  pub set : AreSet words knows h memory
  pub step : step_of h memory ≡ Some s
  pub did : s.did ≡ r

-- every step is as its record says
abbrev pub AreRight : (ℕ → Option ℕ) → (ℕ → Bool) → WholeHart → (ℕ → ℕ) → List Record → Type 0
AreRight words knows h memory [] = Unit {0}
AreRight words knows h memory (r ∷ rs) =
    (s : Step) × IsRight words knows h memory r s × AreRight words (knows_also s.writes knows) (hart_after s h) (memory_after s.did.accesses memory) rs
