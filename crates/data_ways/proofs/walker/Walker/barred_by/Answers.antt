use Rattle.std.proofs.Common.{Option, Some, refl, sym, subst}
use Rattle.data_ways.specs.declared.barring.RootTable.{RootTable}
use Rattle.data_ways.specs.Internal.Barring.{is_stored}
use Rattle.data_ways.specs.Internal.Tables.{IsTable}
use Rattle.data_ways.proofs.Parted.{led_on, newly_bars, own_behind}
use Rattle.data_ways.proofs.walker.Walker.barred_by.Goals as goal

pub returns : goal.returns
returns g c =
    let self = c.args.self.now in
    let at = g.M.Words.at self.memory.now in
    let value = c.args.new.now.value in
    let known : IsTable at self.feet.now self.hart self.view (Some c.in-Some.table) = subst (λ (o : Option RootTable). IsTable at self.feet.now self.hart self.view o) c.in-Some.is c.requires.root in
    newly_bars at self.feet.now self.hart self.view self.access c.args.end value c.in_ok-own.own c.args.new.now.racing c.in_ok-barred.barred known.0
    (own_behind at self.view (is_stored at self.access c.args.end) value _ c.in-Some.table.untouched c.in_ok-stored.stored c.in_ok-own.own known.1.untouched refl c.in_ok-stored.ensures c.in_ok-own.ensures
    (led_on value (sym c.if-is_invalid.ensures) (sym c.if-not-is_pointer.ensures)))
    c.requires.new c.in_ok-barred.ensures
