-- From which record on the accesses race.
use Rattle.std.specs.Prelude.{ℕ, ◌+◌, ◌<◌, nat_eq, if◌then◌else◌, List, ◌++◌, length, take}
use Rattle.rv_script.specs.declared.access.Access.{Access}
use Rattle.rv_hart.specs.declared.record.Record.{Record}
use Rattle.foot_map.specs.Races.{IsRaceFree}
use Rattle.tpl_admit.specs.Races.{footprint_of}

-- some accesses more of a hart
abbrev pub with_accesses : (ℕ → List Access) → ℕ → List Access → ℕ → List Access
with_accesses did k xs j = if nat_eq j k then did k ++ xs else did j

-- the accesses of so many records of a hart, behind those that were there, don't race, and those of one record more do
pub record RacesAt (did : ℕ → List Access) (hart : ℕ) (records : List Record) (step : ℕ) : Type 0 where
  pub at : step < length records
  pub before : IsRaceFree (with_accesses did hart (footprint_of (take step records)))
  pub races : IsRaceFree (with_accesses did hart (footprint_of (take (step + 1) records))) → ⊥
