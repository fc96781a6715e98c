use Rattle.std.proofs.Common.{take}
use Rattle.fd_narrow.specs.declared.rows.Part.{Part}
use Rattle.fd_narrow.specs.Internal.Parts.{IsMissed, part_of}
use Rattle.fd_narrow.proofs.domains.Domains.rest_of.Given as goal

abbrev pub invariant-loop-row : goal.invariant-loop-row
invariant-loop-row l = (part : Part) → IsMissed l.self part (take l.row-index l.rows) (part_of part l.rest)
