use Rattle.std.specs.List.{list_all}
use Rattle.fd_prob.specs.Relations.{holds}
use Rattle.case_search.proofs.JoinedTargets.{with_common}
use Rattle.case_search.proofs.targets.Targets.with_target.Goals as goal

pub returns-then-first-pc-clause-holds : goal.returns-then-first-pc-clause-holds
returns-then-first-pc-clause-holds c op x = with_common op x (list_all (holds op x) c.args.self.rels) c.args.self.target c.in-Some.first c.args.pc c.in-Some.before c.args.set.now c.in_ok-common-in-Some.common c.in-Some.is c.if-first-pc.true c.in_ok-common-in-Some.ensures
