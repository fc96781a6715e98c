use Rattle.std.proofs.Common.{◌∙◌}
use Rattle.rv_script.specs.declared.access.Role.TheVariants.{Fetch}
use Rattle.rv_hart.proofs.Stores.{one_applied}
use Rattle.rv_hart.proofs.storing.apply_all.Goals as goal

pub loop-x-preserved : goal.loop-x-preserved
loop-x-preserved g c = λ n.
    one_applied c.args.accesses.now c.loop-x.x-index (record { role = Fetch; addr = 0; size = 0; value = 0 }) (g.M.Words.at c.loop-x.m) (g.M.Words.at c.apply.new.m) c.loop-x-test.true c.apply.ensures n
    ∙ c.loop-x.invariant n
