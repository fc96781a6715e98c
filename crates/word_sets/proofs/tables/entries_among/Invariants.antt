use Rattle.word_sets.specs.Internal.Tables.{AreListed}
use Rattle.word_sets.proofs.tables.entries_among.Given as goal

abbrev pub invariant-loop-i : goal.invariant-loop-i
invariant-loop-i l = AreListed l.table l.entries.indices.items l.entries.values.items
