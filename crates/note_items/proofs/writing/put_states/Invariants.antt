use Rattle.std.proofs.Common.{◌≡◌, ◌++◌, take}
use Rattle.std.specs.List.{flat_map}
use Rattle.note_items.specs.Spelling.{state_spelling}
use Rattle.note_items.proofs.writing.put_states.Given as goal

abbrev pub invariant-loop-state : goal.invariant-loop-state
invariant-loop-state l = l.out.items ≡ l.fn.out.items ++ flat_map state_spelling (take l.state-index l.states)
