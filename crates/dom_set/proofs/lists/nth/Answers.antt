use Rattle.std.proofs.Common.{◌≡◌, ◌+◌, ap, ◌∙◌, arith}
use Rattle.set_pieces.specs.Counting.{total}
use Rattle.set_pieces.specs.Internal.Pieces.{times}
use Rattle.set_pieces.proofs.Totals.{total_none, total_next}
use Rattle.dom_set.proofs.lists.nth.Goals as goal

pub loop-end-init : goal.loop-end-init
loop-end-init c = record {
  ordered = omega arith;
  fits = omega arith;
  low = omega (arith, total_none (times c.args.pieces.now));
  high = c.requires.within;
}

pub returns-clause-below : goal.returns-clause-below
returns-clause-below c =
    let is : c.loop-end.end ≡ c.loop-end.low + 1 = omega arith in
    omega (arith, ap (total (times c.args.pieces.now)) is ∙ total_next (times c.args.pieces.now) c.loop-end.low, c.requires.apart c.loop-end.low)

pub returns-clause-held : goal.returns-clause-held
returns-clause-held c =
    let is : c.loop-end.end ≡ c.loop-end.low + 1 = omega arith in
    omega (arith, ap (total (times c.args.pieces.now)) is ∙ total_next (times c.args.pieces.now) c.loop-end.low, c.requires.apart c.loop-end.low)
