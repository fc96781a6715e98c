use Rattle.std.proofs.Common.{IfOk, subst, sym}
use Rattle.data_goals.specs.Goals.{IsCut}
use Rattle.leaf_csrs.specs.declared.usage.Usage.{Usage}
use Rattle.leaf_csrs.specs.Usages.{old_test}
use Rattle.leaf_csrs.proofs.usage.old_cut.Goals as goal

pub returns-in-Swaps : goal.returns-in-Swaps
returns-in-Swaps c = subst (λ (u : Usage). IfOk c.read_cut.result (IsCut (old_test c.args.stand.now c.args.register u))) (sym c.in-Swaps.is) c.read_cut.ensures

pub returns-in-Changes : goal.returns-in-Changes
returns-in-Changes c = subst (λ (u : Usage). IfOk c.read_cut-in-Changes.result (IsCut (old_test c.args.stand.now c.args.register u))) (sym c.in-Changes.is) c.read_cut-in-Changes.ensures

pub returns-in-Looks : goal.returns-in-Looks
returns-in-Looks c = subst (λ (u : Usage). IfOk c.read_cut-in-Looks.result (IsCut (old_test c.args.stand.now c.args.register u))) (sym c.in-Looks.is) c.read_cut-in-Looks.ensures
