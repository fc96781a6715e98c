use Rattle.std.proofs.Common.{◌≡◌, ◌++◌, drop}
use Rattle.fetch_ways.specs.Internal.Keeping.{ways_of}
use Rattle.fetch_ways.proofs.walker.Walker.ways.Given as goal

abbrev pub invariant-loop-row : goal.invariant-loop-row
invariant-loop-row g l =
    l.ways.items ++ ways_of (g.M.Words.at l.self.memory.now) l.self.feet.now l.self.hart l.self.view l.self.pc l.listed (drop l.row-index l.rows)
    ≡ ways_of (g.M.Words.at l.self.memory.now) l.self.feet.now l.self.hart l.self.view l.self.pc l.listed l.rows
