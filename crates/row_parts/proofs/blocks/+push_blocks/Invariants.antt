use Rattle.row_parts.proofs.blocks.+push_blocks.Given as goal

abbrev pub decreases-push_blocks : goal.decreases-push_blocks
decreases-push_blocks g l = l.bits
