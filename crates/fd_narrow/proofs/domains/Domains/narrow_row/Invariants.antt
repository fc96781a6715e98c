use Rattle.std.specs.Prelude.{IsTrue}
use Rattle.fd_prob.specs.Relations.{is_in_row}
use Rattle.fd_narrow.specs.Internal.Steps.{Leaves}
use Rattle.fd_narrow.proofs.domains.Domains.narrow_row.Given as goal

abbrev pub invariant-loop-part : goal.invariant-loop-part
invariant-loop-part l = Leaves (λ x. IsTrue (is_in_row x l.row)) l.initial.self l.self
