use Rattle.std.proofs.Common.{List, All, refl, sym, subst}
use Rattle.std.proofs.lemmas.List.Elements.{All-push}
use Rattle.data_ways.specs.declared.barring.NewRoot.{NewRoot}
use Rattle.data_ways.specs.Internal.Tables.{IsNewRoot}
use Rattle.data_ways.proofs.Parted.{values_further}
use Rattle.data_ways.proofs.walker.Walker.new_roots.Goals as goal

pub loop-value-preserved : goal.loop-value-preserved
loop-value-preserved g c =
    let self = c.args.self.now in
    let news = c.loop-value.news.items in record {
      values = values_further news c.push.new.self.items _ c.args.values.now c.loop-value.value-index c.in_ok-push.ensures.items refl c.loop-value-test.true c.loop-value.invariant.values;
      racing = subst (λ (ns : List NewRoot). All (IsNewRoot (g.M.Words.at self.memory.now) self.feet.now self.hart self.view) ns) (sym c.in_ok-push.ensures.items)
          (All-push (IsNewRoot (g.M.Words.at self.memory.now) self.feet.now self.hart self.view) news _ c.loop-value.invariant.racing c.in_ok-racing.ensures);
    }
