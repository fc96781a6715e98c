use Rattle.word_sets.specs.Internal.Tables.{AreOthers}
use Rattle.word_sets.proofs.tables.other_indices.Given as goal

abbrev pub invariant-loop-i : goal.invariant-loop-i
invariant-loop-i l = AreOthers l.table l.others.items
