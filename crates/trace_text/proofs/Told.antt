-- How long the events of a run are.
use Rattle.std.proofs.Common.{ℕ, ◌+◌, ◌*◌, ◌<◌, ◌≤◌, List, [], ◌∷◌, ◌++◌, length, Option, Some, None, arith, length-append}
use Rattle.std.specs.List.{AllByRecursion}
use Rattle.rv_hart.specs.declared.record.Record.{Record}
use Rattle.tpl_ast.specs.Limits.{most_records, text_room}
use Rattle.tpl_admit.specs.WellFormed.{IsRecord}
use Rattle.trace_text.specs.Events.{event_lines, events_text, steps_of, stop_end, stop_head, stop_text}
use Rattle.trace_text.proofs.Lengths.{decimal_short}
use Rattle.trace_text.proofs.Reports.{step_short}

lines_short : (before es : List (ℕ × Record)) → AllByRecursion (λ e. IsRecord e.1) es → length (event_lines before es) ≤ 539 * length es
lines_short before [] all = omega arith
lines_short before (e ∷ es) all = simp length-append (omega (arith, step_short e.0 (steps_of e.0 before) e.1 all.0, lines_short (before ++ e ∷ []) es all.1))

head_short : (hart : ℕ) → length (stop_head hart) ≤ 77
unfolding stop_head
head_short hart = simp length-append (omega (arith, decimal_short hart))

end_short : (step : ℕ) → length (stop_end step) ≤ 71
unfolding stop_end
end_short step = simp length-append (omega (arith, decimal_short step))

stop_short : (events : List (ℕ × Record)) (stopped : Option ℕ) → length (stop_text events stopped) ≤ 148
stop_short events None = omega arith
stop_short events (Some k) = simp length-append (omega (arith, head_short k, end_short (steps_of k events)))

-- with room for a verdict behind them
pub events_short : (events : List (ℕ × Record)) (stopped : Option ℕ) → AllByRecursion (λ e. IsRecord e.1) events → length events ≤ most_records → length (events_text events stopped) + 256 < text_room
events_short events stopped all few = simp length-append (omega (arith, lines_short [] events all, stop_short events stopped, few))
