-- The events of a run, line by line.
use Rattle.std.specs.Prelude.{ℕ, List, [], ◌∷◌, ◌++◌, length, Option, Some, None, codes}
use Rattle.std.specs.Fmt.{decimal}
use Rattle.rv_hart.specs.declared.record.Record.{Record}
use Rattle.tpl_admit.specs.System.{of_hart}
use Rattle.trace_text.specs.Steps.{step_line}

-- how many steps of hart k stand among events
abbrev pub steps_of : ℕ → List (ℕ × Record) → ℕ
steps_of k events = length (of_hart k events)

-- the step lines of events behind others, each numbered among those of its hart
abbrev pub event_lines : List (ℕ × Record) → List (ℕ × Record) → List ℕ
event_lines before [] = []
event_lines before (e ∷ es) = step_line e.0 (steps_of e.0 before) e.1 ++ event_lines (before ++ e ∷ []) es

-- `outside hart K`
unfoldable pub stop_head : ℕ → List ℕ
stop_head hart = codes "outside hart " ++ decimal hart

-- ` step I`
unfoldable pub stop_end : ℕ → List ℕ
stop_end step = codes " step " ++ decimal step ++ codes "\n"

abbrev pub stop_line : ℕ → ℕ → List ℕ
stop_line hart step = stop_head hart ++ stop_end step

-- where the run stopped, the hart that had no step, and how many it had made
abbrev pub stop_text : List (ℕ × Record) → Option ℕ → List ℕ
stop_text events None = []
stop_text events (Some k) = stop_line k (steps_of k events)

-- the events of a run in their order, and where it stopped
abbrev pub events_text : List (ℕ × Record) → Option ℕ → List ℕ
events_text events stopped = event_lines [] events ++ stop_text events stopped
