use Rattle.std.proofs.Common.{ap, length, sym, ◌∙◌}
use Rattle.search_tests.specs.Listed.{whole_of}
use Rattle.search_tests.proofs.Beginnings.{mark_is}
use Rattle.search_tests.proofs.listed.ListedTestPartialTest.mark.Goals as goal

pub returns : goal.returns
returns c = ap length c.as_slice.ensures.value ∙ sym (mark_is (whole_of c.args.self.now.dead.items c.args.self.now.odd.items c.args.self.now.large.items) c.args.self.now.changes.items)
