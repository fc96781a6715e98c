use Rattle.search_tests.specs.Listed.{whole_of}
use Rattle.search_tests.proofs.Beginnings.{rolled_back}
use Rattle.search_tests.proofs.listed.ListedTestPartialTest.rollback.Goals as goal

pub returns-clause-back : goal.returns-clause-back
returns-clause-back c = rolled_back (whole_of c.args.self.now.dead.items c.args.self.now.odd.items c.args.self.now.large.items) c.args.self.now.changes.items c.truncate.new.self.items c.args.mark c.truncate.ensures.items c.requires
