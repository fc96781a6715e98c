use Rattle.std.proofs.Common.{◌≡◌, ◌<◌, ◌^◌, map}
use Rattle.std.specs.List.{AllByRecursion}
use Rattle.std.specs.Map.Iter.{deref_pair}
use Rattle.part_told.specs.Words.{at_address}
use Rattle.part_told.proofs.words.words_of.Given as goal

abbrev pub invariant-loop-n : goal.invariant-loop-n
invariant-loop-n l = record {
  pairs : l.pairs ≡ map at_address (map deref_pair l.yielded);
  small : AllByRecursion (λ e. e.1 < 2 ^ 32) l.pairs;
}
