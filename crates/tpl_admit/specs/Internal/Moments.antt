-- What the code judges atoms on, as the definitions see it.
use Rattle.tpl_admit.specs.declared.moment.Moment.{Moment as AMoment}
use Rattle.tpl_admit.specs.Starts.{lookup}
use Rattle.tpl_admit.specs.Variables.{Moment}

abbrev pub moment : AMoment → Moment
moment m = record { done = m.done.now; regs = m.regs.now; names = lookup m.names.now; others = m.others.now }
