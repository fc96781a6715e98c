use Rattle.set_pieces.proofs.pattern.Pattern.+between.Given as goal

abbrev pub decreases-between : goal.decreases-between
decreases-between l = l.high
