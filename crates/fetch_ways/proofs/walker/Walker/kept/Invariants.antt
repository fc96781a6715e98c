use Rattle.std.proofs.Common.{◌≡◌, ℕ, Bool, ◌++◌, drop}
use Rattle.std.specs.Prelude.{filter}
use Rattle.fetch_ways.specs.Internal.Keeping.{passes}
use Rattle.fetch_ways.proofs.walker.Walker.kept.Given as goal

abbrev pub invariant-loop-first : goal.invariant-loop-first
invariant-loop-first g l =
    let test : ℕ → Bool = passes (g.M.Words.at l.self.memory.now) l.self.feet.now l.self.hart l.self.view l.self.pc l.row l.end in
    l.kept.items ++ filter test (drop l.first-index l.listed) ≡ filter test l.listed
