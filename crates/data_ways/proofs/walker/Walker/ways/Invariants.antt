use Rattle.std.proofs.Common.{◌≡◌, ℕ, ◌<◌, ◌^◌, Bool, ◌||◌, List, drop, map}
use Rattle.data_ways.specs.declared.way.DataEnd.{DataEnd}
use Rattle.data_ways.specs.Internal.Making.{in_ways, rows_have}
use Rattle.data_ways.proofs.walker.Walker.ways.Given as goal

abbrev pub invariant-loop-row : goal.invariant-loop-row
invariant-loop-row g l =
    (test : DataEnd → Bool) (x first second : ℕ) → x < 2 ^ 32 →
    let listed : List ℕ = map (λ new. new.value) l.news in
    (in_ways test l.ways.items x first second || rows_have (g.M.Words.at l.self.memory.now) l.self.feet.now l.self.hart l.self.view l.self.access test listed (drop l.row-index l.rows) x first second)
    ≡ rows_have (g.M.Words.at l.self.memory.now) l.self.feet.now l.self.hart l.self.view l.self.access test listed l.rows x first second
