use Rattle.word_sets.proofs.Jumps.{odd_has}
use Rattle.word_sets.proofs.targets.with_odd.Goals as goal

pub returns : goal.returns
returns c = odd_has c.set_laws.ensures.pass c.set_laws.ensures.tests c.args.set.now c.in_ok-both.both c.in_ok-both.ensures
