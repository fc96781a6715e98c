use Rattle.std.proofs.Common.{◌≡◌, ◌-◌, length}
use Rattle.tpl_lang.specs.PartReading.{some_wishes}
use Rattle.tpl_cursor.proofs.Lists.{behind}
use Rattle.tpl_token.specs.Internal.Phrases.{wishes_view}
use Rattle.tpl_cursor.proofs.cursor.Cursor.some_wishes.Given as goal

abbrev pub invariant-loop : goal.invariant-loop
invariant-loop l = behind (wishes_view l.wishes.items) (some_wishes (length l.fn.self - l.counter) l.self) ≡ some_wishes (length l.fn.self) l.fn.self
