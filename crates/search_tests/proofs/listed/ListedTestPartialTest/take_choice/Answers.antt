use Rattle.search_tests.specs.Listed.{whole_of}
use Rattle.search_tests.proofs.Beginnings.{kept_on}
use Rattle.search_tests.proofs.listed.ListedTestPartialTest.take_choice.Goals as goal

pub returns-clause-kept : goal.returns-clause-kept
returns-clause-kept c = kept_on (whole_of c.args.self.now.dead.items c.args.self.now.odd.items c.args.self.now.large.items) c.args.self.now.changes.items c.keep.new.changes.items _ c.in_ok-keep.ensures
