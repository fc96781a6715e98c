use Rattle.part_state.specs.Meaning.{place_given}
use Rattle.part_state.specs.State.{here}
use Rattle.part_making.proofs.Steady.{after, like_given}
use Rattle.part_making.proofs.making.Making.start.Goals as goal

pub invariant_of-self : goal.invariant_of-self
invariant_of-self c =
    let w = here c.args.self.now.part in
    record { fits = after c.args.self.now.template c.args.self.now.part c.start_place.new.self (place_given c.args.hart c.args.place c.args.value w) c.start_place.result c.args.self.now.fits c.start_place.ensures.now c.start_place.ensures.earlier c.start_place.ensures.refused (like_given c.args.hart c.args.place c.args.value w) }
