use Rattle.std.proofs.Common.{ℕ, get_or, drop, ◌+◌, ◌∙◌}
use Rattle.std.proofs.lemmas.List.{drop_more}
use Rattle.given_start.specs.Knowledge.{known_of}
use Rattle.given_start.proofs.Given.{left_next, given_next}
use Rattle.given_start.proofs.harts.give_all.Goals as goal

pub loop-place-preserved : goal.loop-place-preserved
loop-place-preserved c =
    let places = c.args.places.now in
    let i = c.loop-place.place-index in
    let none : ℕ × ℕ = (0, 0) in
    let place : ℕ × ℕ = get_or places i none in
    let split = drop_more places i none c.loop-place-test.true in
    let now = c.loop-place.invariant in
    record {
      fixed = λ ram. c.give.ensures.fixed ram ∙ now.fixed ram;
      left = left_next (drop i places) place (drop (i + 1) places) (known_of c.loop-place.hart) (known_of c.give.new.hart) split now.left c.give.ensures.known;
      known = λ key. given_next (drop i places) place (drop (i + 1) places) (known_of c.loop-place.hart) (known_of c.give.new.hart) split now.left c.give.ensures.known key ∙ now.known key;
    }
