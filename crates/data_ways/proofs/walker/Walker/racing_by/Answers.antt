use Rattle.std.proofs.Common.{Bool, ◌&&◌, Option, Some, refl, sym, ap, ◌∙◌, subst}
use Rattle.data_ways.specs.declared.barring.RootTable.{RootTable}
use Rattle.data_ways.specs.Internal.Barring.{races}
use Rattle.data_ways.specs.Internal.Tables.{IsTable, meets_behind}
use Rattle.data_ways.proofs.Parted.{own_behind, led_on}
use Rattle.data_ways.proofs.walker.Walker.racing_by.Goals as goal

pub returns : goal.returns
returns g c = λ ea small.
    let self = c.args.self.now in
    let at = g.M.Words.at self.memory.now in
    let known : IsTable at self.feet.now self.hart self.view (Some c.in-Some.table) = subst (λ (o : Option RootTable). IsTable at self.feet.now self.hart self.view o) c.in-Some.is c.requires in
    own_behind at self.view (λ x. races at self.feet.now self.hart) c.args.value _ c.in-Some.table.untouched c.in_ok-racing.racing c.in_ok-own.own known.1.untouched refl c.in_ok-racing.ensures c.in_ok-own.ensures
    (led_on c.args.value (sym c.if-is_invalid.ensures) (sym c.if-not-is_pointer.ensures)) ea small
    ∙ sym (ap (λ (b : Bool). b && meets_behind at self.view (races at self.feet.now self.hart) c.args.value ea) known.0)
