use Rattle.std.proofs.Common.{◌≡◌, ◌++◌, drop}
use Rattle.part_told.specs.Finishing.{known_from}
use Rattle.part_told.proofs.names.names_of.Given as goal

abbrev pub invariant-loop-n : goal.invariant-loop-n
invariant-loop-n l = l.given ++ known_from l.n (drop l.n l.names) ≡ known_from 0 l.names
