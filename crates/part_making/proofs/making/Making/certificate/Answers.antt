use Rattle.std.proofs.Common.{sym}
use Rattle.part_making.proofs.Steady.{now_of}
use Rattle.part_making.proofs.making.Making.certificate.Goals as goal

pub finish-requires-clause-harts : goal.finish-requires-clause-harts
finish-requires-clause-harts c =
    let same = (now_of c.args.self.template c.args.self.part c.args.self.fits).harts in
    sym same

pub finish-requires-clause-ram : goal.finish-requires-clause-ram
finish-requires-clause-ram c = (now_of c.args.self.template c.args.self.part c.args.self.fits).ram
