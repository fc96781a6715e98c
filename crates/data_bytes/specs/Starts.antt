-- The addresses of accesses.
use Rattle.std.specs.Prelude.{◌≡◌, ℕ, ◌%◌, ◌⊎◌, Bool, not, ◌&&◌, nat_eq, List}
use Rattle.dom_set.specs.Elements.{is_in}
use Rattle.rv_script.specs.Bytes.{any_byte}
use Rattle.data_bytes.specs.declared.memory.DataBytes.{DataBytes}
use Rattle.data_bytes.specs.declared.starts.DataAccess.{DataAccess}
use Rattle.data_bytes.specs.declared.starts.DataAccess.TheVariants.{Load, Store}

-- an access is of 1, 2 or 4 bytes
abbrev pub IsSize : ℕ → Type 0
IsSize size = (size ≡ 1) ⊎ ((size ≡ 2) ⊎ (size ≡ 4))

-- a multiple of the size from which on no byte of an access is barred
abbrev pub is_open : List ℕ → ℕ → ℕ → Bool
is_open barred size v = nat_eq (v % size) 0 && not (any_byte size v (is_in barred))

-- the bytes that a load or a store may not touch
abbrev pub barred_of : DataBytes → DataAccess → List ℕ
barred_of bytes Load = bytes.not_loaded
barred_of bytes Store = bytes.not_stored
