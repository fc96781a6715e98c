use Rattle.std.proofs.Common.{ℕ, ◌<◌, ◌^◌, subst, arith}
use Rattle.fd_prob.proofs.Places.{place_below}
use Rattle.fd_prob.specs.Slots.{slot_number}
use Rattle.fd_solve.proofs.pivots.picks_are_words.Goals as goal

pub returns : goal.returns
returns c s later = subst (λ (n : ℕ). n < 2 ^ 32) (c.pivots_in-pivots.ensures.others s later) (c.words.ensures (slot_number s) 0 (omega (arith, place_below s, c.pivots_in-pivots.ensures.long)))
