-- What is known of a hart, by the keys of its places, and the whole hart that has zero elsewhere.
use Rattle.std.specs.Prelude.{ℕ, ◌*◌, Bool, nat_eq, nat_lt, if◌then◌else◌, List, Option, None, slice_index_or}
use Rattle.std.specs.Option.{is_some}
use Rattle.rv_csr.specs.State.{CsrValues, lazy_value_at}
use Rattle.rv_csr.specs.Table.{csr_address}
use Rattle.rv_hart.specs.declared.hart.Hart.{Hart}
use Rattle.rv_hart.specs.Fixed.{Fixed, fixed_by}
use Rattle.rv_hart.specs.Whole.{WholeHart}
use Rattle.tpl_ast.specs.declared.template.Region.{Region}
use Rattle.tpl_admit.specs.Starts.{zero_elsewhere}
use Rattle.tpl_ast.specs.States.{is_in_ram}

-- the value of the place of a key, where it is known; x0 has no key
unfoldable pub known_at : List (Option ℕ) → CsrValues → ℕ → Option ℕ
known_at regs csrs key =
    if nat_lt key 32
    then (if nat_eq key 0 then None else slice_index_or regs key None)
    else lazy_value_at csrs (csr_address key)

abbrev pub known_of : Hart → ℕ → Option ℕ
known_of h = known_at h.regs h.csrs

abbrev pub knows_of : Hart → ℕ → Bool
knows_of h key = is_some (known_of h key)

abbrev pub fixed_now : List Region → Hart → Fixed
fixed_now ram h = fixed_by h.pc h.privilege h.csrs (λ n. is_in_ram ram (n * 4))

-- the hart with zero wherever nothing is known
abbrev pub whole_of : List Region → Hart → WholeHart
whole_of ram h = record { fixed = fixed_now ram h; file = zero_elsewhere (known_of h) }
