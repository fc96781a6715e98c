use Rattle.std.proofs.Common.{◌≡◌, ◌-◌, length}
use Rattle.tpl_lang.specs.PartReading.{list_of, outcome_part_at}
use Rattle.tpl_cursor.proofs.Lists.{with_front}
use Rattle.tpl_cursor.proofs.cursor.Cursor.outcomes_list.Given as goal

abbrev pub invariant-loop : goal.invariant-loop
invariant-loop l = with_front l.outcomes.items (list_of outcome_part_at (length l.fn.self - l.counter) l.self) ≡ list_of outcome_part_at (length l.fn.self) l.fn.self
