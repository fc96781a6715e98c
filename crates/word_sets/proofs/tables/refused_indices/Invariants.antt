use Rattle.word_sets.specs.Internal.Tables.{AreRefused}
use Rattle.word_sets.proofs.tables.refused_indices.Given as goal

abbrev pub invariant-loop-i : goal.invariant-loop-i
invariant-loop-i l = AreRefused l.table l.values l.refused.items
