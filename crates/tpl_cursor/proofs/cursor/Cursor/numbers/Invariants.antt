use Rattle.std.proofs.Common.{◌≡◌, ◌-◌, length}
use Rattle.tpl_lang.specs.Reading.{more_numbers, numbers_at}
use Rattle.tpl_cursor.proofs.Lists.{behind}
use Rattle.tpl_cursor.proofs.cursor.Cursor.numbers.Given as goal

abbrev pub invariant-loop : goal.invariant-loop
invariant-loop l = (l.end - l.counter ≡ length l.self) × (behind l.numbers.items (more_numbers l.self) ≡ numbers_at l.fn.self)
