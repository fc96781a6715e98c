-- Frames of physical memory: 4,096 bytes from a multiple of 4,096 on (Privileged, 4.3.1), each named by an address in it.
use Rattle.std.specs.Prelude.{ℕ, ◌/◌, Bool, nat_eq, List}
use Rattle.std.specs.List.{list_any}

-- the address is in one of these frames
abbrev pub in_frames : List ℕ → ℕ → Bool
in_frames frames addr = list_any (λ frame. nat_eq (addr / 4096) (frame / 4096)) frames
