use Rattle.std.proofs.Common.{IsTrue}
use Rattle.std.specs.List.{list_any}
use Rattle.fd_prob.specs.Relations.{is_in_row}
use Rattle.fd_narrow.specs.Internal.Steps.{Leaves}
use Rattle.fd_narrow.proofs.domains.Domains.narrow_rows.Given as goal

abbrev pub invariant-loop-part : goal.invariant-loop-part
invariant-loop-part l = Leaves (λ x. IsTrue (list_any (is_in_row x) l.rows)) l.initial.self l.self
