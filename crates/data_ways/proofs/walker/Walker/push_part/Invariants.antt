use Rattle.std.proofs.Common.{◌≡◌, ℕ, ◌<◌, ◌^◌, Bool, ◌&&◌, ◌||◌, drop}
use Rattle.std.specs.List.{list_any}
use Rattle.dom_set.specs.Elements.{is_in}
use Rattle.data_ways.specs.declared.way.DataEnd.{DataEnd}
use Rattle.data_ways.specs.declared.barring.NewRoot.{NewRoot}
use Rattle.data_ways.specs.Internal.Making.{in_ways, part_has, part_in, takes}
use Rattle.data_ways.proofs.walker.Walker.push_part.Given as goal

abbrev pub invariant-loop-new : goal.invariant-loop-new
invariant-loop-new g l =
    (test : DataEnd → Bool) (x first second : ℕ) → x < 2 ^ 32 →
    let taken : NewRoot → Bool = takes (g.M.Words.at l.self.memory.now) l.self.feet.now l.self.hart l.self.view l.self.access l.part x first in
    ((in_ways test l.ways.items x first second || part_has test l.part (part_in l.part x && is_in l.others.items first) second) || part_has test l.part (part_in l.part x && list_any taken (drop l.new-index l.news)) second)
    ≡ (in_ways test l.initial.ways.items x first second || part_has test l.part (part_in l.part x && list_any taken l.news) second)
