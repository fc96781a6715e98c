use Rattle.std.proofs.Common.{List, ap, ◌∙◌}
use Rattle.row_parts.specs.declared.classes.Level.TheVariants.{Second}
use Rattle.data_ways.specs.declared.pointers.Pointer.{Pointer}
use Rattle.data_ways.specs.Internal.Barring.{is_stored}
use Rattle.data_ways.specs.Internal.Tables.{any_pointer, entry_of}
use Rattle.data_ways.proofs.Parted.{table_bars}
use Rattle.data_ways.proofs.walker.Walker.barred_at.Goals as goal

pub returns : goal.returns
returns g c =
    let self = c.args.self.now in
    table_bars (g.M.Words.at self.memory.now) self.feet.now self.hart self.view self.access c.args.end c.args.table.now c.in_ok-first.first c.in_ok-behind.behind c.in_ok-stored.stored c.in_ok-barred.barred c.requires c.in_ok-first.ensures
    (λ ea small. c.in_ok-behind.ensures ea small ∙ ap (λ (ps : List Pointer). any_pointer ps (λ frame. is_stored (g.M.Words.at self.memory.now) self.access c.args.end ea (entry_of Second frame ea)) ea) c.deref.ensures.value)
    c.in_ok-stored.ensures c.in_ok-barred.ensures
