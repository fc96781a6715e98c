use Rattle.std.proofs.Common.{List, Bool, ◌||◌, ap, ◌∙◌}
use Rattle.dom_set.specs.Elements.{is_in}
use Rattle.row_parts.specs.declared.classes.Level.TheVariants.{Second}
use Rattle.data_ways.specs.declared.pointers.Pointer.{Pointer}
use Rattle.data_ways.specs.Internal.Barring.{races}
use Rattle.data_ways.specs.Internal.Tables.{any_pointer, entry_of}
use Rattle.data_ways.proofs.Parted.{table_is}
use Rattle.data_ways.proofs.walker.Walker.table_in.Goals as goal

pub returns : goal.returns
returns g c =
    let self = c.args.self.now in
    table_is (g.M.Words.at self.memory.now) self.feet.now self.hart self.view _ (is_in c.in_ok-behind.behind) c.requires c.in_ok-pointers.ensures c.in_ok-untouched.ensures
    (λ ea small. c.in_ok-racing.ensures ea small ∙ ap (λ (b : Bool). b || is_in c.in_ok-behind.behind ea) (c.in_ok-first.ensures ea small))
    (λ ea small. c.in_ok-behind.ensures ea small ∙ ap (λ (ps : List Pointer). any_pointer ps (λ frame. races (g.M.Words.at self.memory.now) self.feet.now self.hart (entry_of Second frame ea)) ea) c.deref.ensures.value)
