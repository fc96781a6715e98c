use Rattle.fd_solve.specs.Internal.Equivalent.{AreTried, StandFor}
use Rattle.std.proofs.Common.{◌≡◌, None}
use Rattle.fd_solve.specs.Internal.Marks.{begun_of, whole_of}
use Rattle.fd_solve.specs.Internal.Operations.{NoneBetween}
use Rattle.fd_solve.proofs.operations.solve_between.Given as goal

abbrev pub invariant-loop-op : goal.invariant-loop-op
invariant-loop-op l = record { none : NoneBetween (whole_of l.marked) l.from l.op; stands : StandFor (begun_of l.marked).cases l.narrow; idle : l.narrow ≡ None → l.initial.narrow ≡ None; tried : AreTried (whole_of l.marked).cases l.tried.items }
