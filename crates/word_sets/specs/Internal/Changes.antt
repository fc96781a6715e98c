-- What an operand changes of a control and status register.
use Rattle.std.specs.Prelude.{ℕ, ◌-◌, ◌^◌, bit_and, bit_or}
use Rattle.word_sets.specs.declared.changes.Change.{Change}
use Rattle.word_sets.specs.declared.changes.Change.TheVariants.{Sets, Clears}

-- the old value with the operand's bits set or cleared (Unprivileged, Zicsr)
abbrev pub changed : Change → ℕ → ℕ → ℕ
changed Sets old operand = bit_or old operand
changed Clears old operand = bit_and old (2 ^ 32 - 1 - operand)
