use Rattle.std.proofs.Common.{◌≡◌, ◌++◌, All, drop, map}
use Rattle.data_ways.specs.Internal.Tables.{IsNewRoot}
use Rattle.data_ways.proofs.walker.Walker.new_roots.Given as goal

abbrev pub invariant-loop-value : goal.invariant-loop-value
invariant-loop-value g l = record {
  values : map (λ new. new.value) l.news.items ++ drop l.value-index l.values ≡ l.values;
  racing : All (IsNewRoot (g.M.Words.at l.self.memory.now) l.self.feet.now l.self.hart l.self.view) l.news.items;
}
