use Rattle.std.proofs.Common.{◌≡◌, ℕ, take, if◌then◌else◌}
use Rattle.rv_mem.specs.declared.words.Seen.TheVariants.{Known, Vacant}
use Rattle.rv_mem.specs.Full.{blocks_at}
use Rattle.rv_mem.specs.Ram.{in_ram}
use Rattle.rv_mem.proofs.full.FullMem.new.Given as goal

abbrev pub invariant-loop-region : goal.invariant-loop-region
invariant-loop-region l = (n : ℕ) → blocks_at l.blocks.items n ≡ (if in_ram (take l.region-index l.region-items) n then Known l.fill else Vacant)
