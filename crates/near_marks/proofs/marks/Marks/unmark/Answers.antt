use Rattle.near_marks.proofs.Turning.{both_with, rests_with}
use Rattle.near_marks.proofs.marks.Marks.unmark.Goals as goal

pub invariant_of-self : goal.invariant_of-self
invariant_of-self c = record {
  places = both_with c.self.inside.gaps c.self.inside.turned c.set.new.self c.set-2.new.self c.args.number c.place_of.result c.requires c.place_of.ensures.place c.self.invariant.places c.set.ensures c.set-2.ensures;
  rests_are = rests_with c.self.inside.gaps c.self.inside.rests c.set.new.self c.set-3.new.self c.args.number c.self.invariant.rests_are c.set.ensures c.set-3.ensures;
}
