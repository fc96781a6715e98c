use Rattle.std.proofs.Common.{◌≡◌, ℕ, take}
use Rattle.std.specs.BTreeMap.{get, IsOrdered}
use Rattle.std.specs.Ordering.{nat_cmp}
use Rattle.part_machine.specs.Whole.{given}
use Rattle.part_told.proofs.words.by_number.Given as goal

abbrev pub invariant-loop-word : goal.invariant-loop-word
invariant-loop-word l = record {
  values : (n : ℕ) → get nat_cmp l.values n ≡ given (take l.word-index l.words) n;
  ordered : IsOrdered nat_cmp l.values;
}
