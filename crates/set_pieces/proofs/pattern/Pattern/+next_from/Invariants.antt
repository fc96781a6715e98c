use Rattle.set_pieces.proofs.pattern.Pattern.+next_from.Given as goal

abbrev pub decreases-next_from : goal.decreases-next_from
decreases-next_from l = l.self.mask
