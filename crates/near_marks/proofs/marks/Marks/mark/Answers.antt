use Rattle.near_marks.proofs.Turning.{both_without, rests_without}
use Rattle.near_marks.proofs.marks.Marks.mark.Goals as goal

pub invariant_of-self : goal.invariant_of-self
invariant_of-self c = record {
  places = both_without c.self.inside.gaps c.self.inside.turned c.clear.new.self c.clear-2.new.self c.args.number c.place_of.result c.requires c.place_of.ensures.place c.self.invariant.places c.clear.ensures c.clear-2.ensures;
  rests_are = rests_without c.self.inside.gaps c.self.inside.rests c.clear.new.self c.args.number c.self.invariant.rests_are c.clear.ensures;
}
