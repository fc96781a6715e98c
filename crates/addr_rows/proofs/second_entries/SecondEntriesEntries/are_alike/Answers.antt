use Rattle.std.proofs.Common.{[], ◌∷◌, sym, ap, ◌∙◌}
use Rattle.rv_mem.specs.Ram.{in_ram}
use Rattle.sv_walk.specs.Translation.{Reached}
use Rattle.row_parts.specs.Rows.{Reaches}
use Rattle.addr_rows.proofs.Leading.{seconds_alike}
use Rattle.addr_rows.proofs.second_entries.SecondEntriesEntries.are_alike.Goals as goal

pub returns : goal.returns
returns c = λ h x leaf.
    ap (λ (r : Reached). Reaches r ∷ [])
    (seconds_alike (in_ram c.args.self.now.ram.now) c.args.self.now.view c.args.self.now.kind c.args.a c.args.b x
    (sym c.second_target-first.ensures ∙ c.is_same_target.ensures h ∙ c.second_target-second.ensures))
