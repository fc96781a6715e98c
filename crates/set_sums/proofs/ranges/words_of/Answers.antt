use Rattle.set_sums.proofs.Spans.{of_ranges}
use Rattle.set_sums.proofs.ranges.words_of.Goals as goal

pub returns : goal.returns
returns c = of_ranges c.set_laws.ensures.pass c.set_laws.ensures.tests c.args.ranges.now c.in_ok-words.words c.in_ok-words.ensures
