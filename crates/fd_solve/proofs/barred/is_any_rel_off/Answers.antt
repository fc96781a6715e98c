use Rattle.fd_prob.specs.Relations.{holds}
use Rattle.fd_solve.proofs.Barring.{not_all}
use Rattle.fd_solve.proofs.barred.is_any_rel_off.Goals as goal

pub returns-then-branch : goal.returns-then-branch
returns-then-branch c is op x within =
    not_all (holds op x) c.args.rels.now c.loop-rel.rel-index c.rel-item.result c.loop-rel-test.true c.rel-item.is (c.in_ok-is_rel_off.ensures c.if-branch.true op x within)
