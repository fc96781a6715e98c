-- Relations while those of rows are joined into one.
use Rattle.std.specs.Prelude.{Bool, ◌&&◌}
use Rattle.std.specs.List.{list_all}
use Rattle.rv_isa.specs.declared.operation.Op.{Op}
use Rattle.fd_prob.specs.declared.joined.Joined.{Joined}
use Rattle.fd_prob.specs.declared.problem.Assignment.{Assignment}
use Rattle.fd_prob.specs.Joining.{some_row_holds}
use Rattle.fd_prob.specs.Relations.{holds}

-- the relations hold, and one of the rows does
abbrev pub all_hold : Op → Assignment → Joined → Bool
all_hold op x j = list_all (holds op x) j.rels && some_row_holds x j.rows
