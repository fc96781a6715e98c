-- The accesses of records, which must not race.
use Rattle.std.specs.Prelude.{ℕ, List, [], ◌∷◌, ◌++◌}
use Rattle.rv_script.specs.declared.access.Access.{Access}
use Rattle.rv_hart.specs.declared.record.Record.{Record}

-- the footprint: the accesses of records, each with its bytes and its role
abbrev pub footprint_of : List Record → List Access
footprint_of [] = []
footprint_of (r ∷ rs) = r.accesses ++ footprint_of rs

-- the footprint of each hart
abbrev pub footprints_of : (ℕ → List Record) → ℕ → List Access
footprints_of traces k = footprint_of (traces k)
