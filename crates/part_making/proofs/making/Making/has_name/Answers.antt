use Rattle.std.proofs.Common.{arith}
use Rattle.std.proofs.lemmas.Bool.{ltb-true}
use Rattle.part_making.proofs.Steady.{now_of}
use Rattle.part_making.proofs.making.Making.has_name.Goals as goal

pub returns : goal.returns
returns c = λ h.
    let below = ltb-true c.args.name c.len.result h in
    let o = now_of c.args.self.now.template c.args.self.now.part c.args.self.now.fits in
    omega (arith, below, o.names, c.len.ensures)
