-- The bytes that the records of a test touch.
use Rattle.std.specs.Prelude.{ℕ, zero, suc, ◌+◌, List, [], ◌∷◌, ◌++◌, filter, map}
use Rattle.rv_script.specs.declared.access.Access.{Access}
use Rattle.rv_script.specs.Bytes.{covers}
use Rattle.foot_map.specs.declared.touch.Touch.{Touch}
use Rattle.rv_hart.specs.declared.record.Record.{Record}
use Rattle.tpl_admit.specs.Races.{footprint_of}

-- so many numbers from one up
abbrev pub bytes_from : ℕ → ℕ → List ℕ
bytes_from first zero = []
bytes_from first (suc n) = first ∷ bytes_from (first + 1) n

-- each byte of an access, which keeps to one aligned word, with its hart and role
abbrev pub touches_of : ℕ → Access → List Touch
touches_of hart x = map (λ b. record { byte = b; hart = hart; role = x.role }) (filter (covers x) (bytes_from x.addr x.size))

abbrev pub all_touches_of : ℕ → List Access → List Touch
all_touches_of hart [] = []
all_touches_of hart (x ∷ xs) = touches_of hart x ++ all_touches_of hart xs

-- those of the records of harts, from the number of a hart on
abbrev pub touches_from : ℕ → List (List Record) → List Touch
touches_from hart [] = []
touches_from hart (records ∷ more) = all_touches_of hart (footprint_of records) ++ touches_from (hart + 1) more
