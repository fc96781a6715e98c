use Rattle.std.proofs.Common.{length}
use Rattle.rv_mem.specs.Full.{full_at}
use Rattle.rv_system.specs.Fills.{evenly}
use Rattle.rv_system.proofs.Fills.{evenly_legal, fills_agree, fills_are_legal}
use Rattle.rv_system.proofs.Starts.{stands_filled, stands_first}
use Rattle.rv_system.proofs.system.System.of.Goals as goal

pub returns-clause-agrees : goal.returns-clause-agrees
returns-clause-agrees c = fills_agree c.args.cert.now (evenly c.args.fill) c.requires.words (λ n. c.ranges.fill.fits)

pub returns-clause-legal : goal.returns-clause-legal
returns-clause-legal c = fills_are_legal c.args.cert.now (evenly c.args.fill) c.requires (evenly_legal (length c.args.cert.now.start) c.args.fill c.ranges.fill.fits)

pub returns-clause-stands : goal.returns-clause-stands
returns-clause-stands c = stands_filled c.args.cert.now c.args.fill c.in_ok-harts.harts.items (full_at c.in_ok-mem.mem) c.in_ok-harts.ensures c.in_ok-mem.ensures

pub returns-clause-zero : goal.returns-clause-zero
returns-clause-zero c = λ zero.
    stands_first c.args.cert.now c.args.fill c.in_ok-harts.harts.items (full_at c.in_ok-mem.mem) zero
    (stands_filled c.args.cert.now c.args.fill c.in_ok-harts.harts.items (full_at c.in_ok-mem.mem) c.in_ok-harts.ensures c.in_ok-mem.ensures)
