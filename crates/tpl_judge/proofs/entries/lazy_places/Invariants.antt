use Rattle.std.proofs.Common.{◌≡◌, ◌++◌, drop}
use Rattle.tpl_lang.specs.Statements.{lazy_places}
use Rattle.tpl_judge.proofs.entries.lazy_places.Given as goal

abbrev pub invariant-loop-entry : goal.invariant-loop-entry
invariant-loop-entry l = l.places.items ++ lazy_places (drop l.entry-index l.entries) ≡ lazy_places l.entries
