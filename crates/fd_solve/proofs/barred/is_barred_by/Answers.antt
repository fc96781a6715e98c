use Rattle.std.proofs.Common.{ap, ◌∙◌, sym}
use Rattle.std.specs.Prelude.{◌&&◌, false, slice_index_or}
use Rattle.std.specs.List.{list_all}
use Rattle.fd_prob.specs.Relations.{holds}
use Rattle.fd_solve.specs.Internal.Meeting.{is_in_cut}
use Rattle.fd_solve.proofs.Barring.{and_none}
use Rattle.fd_solve.proofs.barred.is_barred_by.Goals as goal

pub returns : goal.returns
returns c is op x within =
    let e = c.args.bias.now in
    and_none (slice_index_or e.cases c.args.place false && list_all (is_in_cut x) e.cuts) (list_all (holds op x) e.rels)
    (ap (list_all (holds op x)) (sym c.as_slice-2.ensures) ∙ c.in_ok-off.ensures is op x within)
