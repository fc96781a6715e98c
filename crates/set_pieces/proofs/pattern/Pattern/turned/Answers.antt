use Rattle.std.proofs.lemmas.Nat.{one_shl}
use Rattle.set_pieces.specs.Internal.Patterns.{matches, matches_below}
use Rattle.set_pieces.proofs.Masks.{bit_clear, bit_set, unturned, turned_within, turned_test}
use Rattle.set_pieces.proofs.pattern.Pattern.turned.Goals as goal

pub returns-then-self-one-eq0 : goal.returns-then-self-one-eq0
unfolding matches_below
returns-then-self-one-eq0 c =
    let p = c.args.self in
    let clear = bit_clear p.mask c.args.bit (rw (one_shl c.args.bit 32 c.requires) at c.if-self-one-eq0.true) in
    λ x. unturned p.mask p.bits c.args.bit x p.within clear

pub invariant_of-result : goal.invariant_of-result
invariant_of-result c =
    let p = c.args.self in
    let set = bit_set p.mask c.args.bit (rw (one_shl c.args.bit 32 c.requires) at c.if-self-one-eq0.false) in
    record { within = rw (one_shl c.args.bit 32 c.requires) (turned_within p.mask p.bits c.args.bit p.within set) }

pub returns : goal.returns
unfolding matches matches_below
returns c =
    let p = c.args.self in
    let set = bit_set p.mask c.args.bit (rw (one_shl c.args.bit 32 c.requires) at c.if-self-one-eq0.false) in
    λ x. rw (one_shl c.args.bit 32 c.requires) (turned_test p.mask p.bits c.args.bit x set)
