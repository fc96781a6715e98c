-- The parts of a certificate, from a test that was made.
use Rattle.std.specs.Prelude.{ℕ, ◌+◌, ◌^◌, ◌<◌, List, [], ◌∷◌, ◌++◌, drop, Option, Some, None}
use Rattle.std.specs.List.{AllByRecursion}
use Rattle.rv_csr.specs.Table.{csr_key}
use Rattle.rv_csr.specs.State.{CsrValues, lazy_value_at}
use Rattle.tpl_ast.specs.declared.template.HartState.{HartState}
use Rattle.part_machine.specs.Whole.{Bare}

-- a key with its value, where there is one
abbrev pub known_one : ℕ → Option ℕ → List (ℕ × ℕ)
known_one key None = []
known_one key (Some v) = (key, v) ∷ []

-- the registers that are known, from a number on
abbrev pub known_from : ℕ → List (Option ℕ) → List (ℕ × ℕ)
known_from n [] = []
known_from n (o ∷ os) = known_one n o ++ known_from (n + 1) os

-- the lazy CSRs that are known, of these addresses
abbrev pub known_csrs : List ℕ → CsrValues → List (ℕ × ℕ)
known_csrs [] csrs = []
known_csrs (a ∷ addrs) csrs = known_one (csr_key a) (lazy_value_at csrs a) ++ known_csrs addrs csrs

-- each value is a word
abbrev pub AreSmall : List (ℕ × ℕ) → Type 0
AreSmall es = AllByRecursion (λ e. e.1 < 2 ^ 32) es

-- the addresses of the lazy CSRs, ascending
abbrev pub csr_addresses : List ℕ
csr_addresses = 0x105 ∷ 0x140 ∷ 0x141 ∷ 0x142 ∷ 0x143 ∷ 0x305 ∷ 0x340 ∷ 0x341 ∷ 0x342 ∷ 0x343 ∷ []

-- the known places of a hart, by ascending key
abbrev pub places_in : Bare → List (ℕ × ℕ)
places_in b = known_from 1 (drop 1 b.regs) ++ known_csrs csr_addresses b.csrs

-- a hart as a certificate tells it
abbrev pub told_state : Bare → HartState
told_state b = record { pc = b.pc; privilege = b.privilege; mstatus = b.csrs.mstatus; medeleg = b.csrs.medeleg; satp = b.csrs.satp; places = places_in b }
