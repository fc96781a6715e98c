use Rattle.foot_map.proofs.touches.+remove_bytes.Given as goal

abbrev pub decreases-remove_bytes : goal.decreases-remove_bytes
decreases-remove_bytes l = l.mask
