-- What the next step of a hart would do, and whether it would race.
use Rattle.std.specs.Prelude.{◌≡◌, ℕ, List}
use Rattle.rv_script.specs.declared.access.Access.{Access}
use Rattle.rv_script.specs.Folds.{Answer.Does as DoesSo, Answer.Missing as Lacks, Answer.Nowhere}
use Rattle.rv_hart.specs.declared.record.Change.{Change}
use Rattle.part_clash.specs.Clashes.{IsLeastStepClash}
use Rattle.part_machine.specs.Whole.{Whole, hart_of, record_in, next_of, IsReady}
use Rattle.part_state.specs.declared.probe.Probe.{Probe}
use Rattle.part_state.specs.declared.probe.Probe.TheVariants.{Ready, Missing, Outside, Clash}
use Rattle.part_state.specs.Meaning.{IsClear}

-- it would be done, and this is its record; or it lacks a place, or there is none; or it would race, and this is the least triple with which it would
abbrev pub IsProbe : ℕ → Whole → Probe → Type 0
IsProbe k w (Ready r) = IsReady k w × IsClear k w × ((xs : List Access) (c : Change) → next_of k w ≡ DoesSo xs c → r ≡ record_in (hart_of k w) w.memory xs c)
IsProbe k w (Missing place) = next_of k w ≡ Lacks place
IsProbe k w Outside = next_of k w ≡ Nowhere
IsProbe k w (Clash t) = IsReady k w × (IsClear k w → ⊥) × ((xs : List Access) (c : Change) → next_of k w ≡ DoesSo xs c → IsLeastStepClash w.feet k xs t)
