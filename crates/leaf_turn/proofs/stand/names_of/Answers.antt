use Rattle.std.proofs.Common.{◌≤◌, length, subst, arith}
use Rattle.part_state.specs.State.{here}
use Rattle.leaf_turn.proofs.Grounding.{all_names}
use Rattle.leaf_turn.proofs.stand.names_of.Goals as goal

pub returns : goal.returns
returns c = all_names c.args.t.now (here c.args.part.now) c.loop-number.names.items c.loop-number.number c.requires.names c.loop-number.invariant.count (let e = c.as_slice-declared-items.ensures in let f = c.loop-number-test.false in subst (λ (xs : _). length xs ≤ c.loop-number.number) e (omega (arith, f))) c.loop-number.invariant.values c.loop-number.invariant.sets
