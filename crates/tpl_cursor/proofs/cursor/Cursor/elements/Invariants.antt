use Rattle.std.proofs.Common.{◌≡◌, ◌-◌, length}
use Rattle.tpl_lang.specs.PartReading.{elements_at}
use Rattle.tpl_cursor.proofs.Lists.{with_front}
use Rattle.tpl_cursor.proofs.cursor.Cursor.elements.Given as goal

abbrev pub invariant-loop : goal.invariant-loop
invariant-loop l = with_front l.elements.items (elements_at (length l.fn.self - l.counter) l.self) ≡ elements_at (length l.fn.self) l.fn.self
