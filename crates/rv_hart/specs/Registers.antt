-- The registers of a hart of which some are known.
use Rattle.std.specs.Prelude.{ℕ, List, ◌∷◌, replicate, slice_set, Option, Some, None}

-- none but x0 is known
abbrev pub no_registers : List (Option ℕ)
no_registers = Some 0 ∷ replicate 31 None

-- the registers after a write
abbrev pub written : Option (ℕ × ℕ) → List (Option ℕ) → List (Option ℕ)
written None regs = regs
written (Some w) regs = slice_set regs w.0 (Some w.1)
