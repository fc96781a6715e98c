-- Frames of 4,096 bytes, each by an address in it.
use Rattle.std.specs.Prelude.{◌≡◌, ℕ, ◌/◌, ◌%◌, Bool, ◌&&◌, nat_le, List, All}

-- each is the first byte of a frame
abbrev pub AreFrames : List ℕ → Type 0
AreFrames frames = All (λ frame. frame % 4096 ≡ 0) frames

-- the frame that holds an address is no frame before the run's first byte and none behind its last
abbrev pub in_frames_from : ℕ × ℕ → ℕ → Bool
in_frames_from run addr = nat_le (run.0 / 4096) (addr / 4096) && nat_le (addr / 4096) (run.1 / 4096)
