use Rattle.std.proofs.Common.{ℕ, ◌/◌, ◌^◌, List, sym, subst}
use Rattle.rv_mem.specs.declared.words.Seen.{Seen}
use Rattle.rv_mem.specs.declared.words.Seen.TheVariants.{Untouched}
use Rattle.row_parts.specs.Classes.{TableOf}
use Rattle.data_ways.proofs.Parted.{untouched_is}
use Rattle.data_ways.proofs.pointers.untouched.Goals as goal

pub returns : goal.returns
returns g c =
    untouched_is (g.M.Words.at c.args.m.now) c.args.root c.deref.result.now c.in_ok-untouched.untouched
    (subst (λ (t : List Seen). TableOf (g.M.Words.at c.args.m.now) c.args.root t) (sym c.deref.ensures.value) c.in_ok-table.ensures)
    c.in_ok-untouched.ensures
