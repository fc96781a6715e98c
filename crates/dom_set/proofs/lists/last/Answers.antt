use Rattle.std.proofs.Common.{ℕ, Option, sym, subst}
use Rattle.set_pieces.specs.Internal.Pieces.{holds}
use Rattle.set_pieces.specs.Ends.{IsLast}
use Rattle.std.proofs.Common.{take, ◌+◌}
use Rattle.dom_set.proofs.Lasts.{last_more}
use Rattle.dom_set.proofs.lists.last.Goals as goal

pub loop-p-preserved : goal.loop-p-preserved
loop-p-preserved c = subst (λ (o : Option ℕ). IsLast (holds (take (c.loop-p.p-index + 1) c.args.pieces.now)) o) (sym c.greater-furthest.ensures)
    (last_more c.args.pieces.now c.loop-p.p-index c.p-item.result c.loop-p.furthest c.last.result c.loop-p-test.true c.p-item.is c.loop-p.invariant c.last.ensures)
