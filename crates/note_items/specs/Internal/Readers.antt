-- The states of harts, their records and dropped biases, as they are read.
use Rattle.std.specs.Prelude.{ℕ, List, Option, Some, None, ◌==◌, nat_lt, if◌then◌else◌}
use Rattle.rv_csr.specs.Causes.{is_cause}
use Rattle.rv_script.specs.declared.access.Access.{Access}
use Rattle.rv_script.specs.declared.access.Role.{Role}
use Rattle.rv_script.specs.declared.access.Role.TheVariants.{Fetch, Walk, Load, Store}
use Rattle.rv_csr.specs.declared.privilege.Priv.{Priv}
use Rattle.rv_csr.specs.declared.privilege.Priv.TheVariants.{U, S, M}
use Rattle.rv_hart.specs.declared.record.Record.{Record}
use Rattle.rv_hart.specs.declared.record.Outcome.{Outcome}
use Rattle.rv_hart.specs.declared.record.Outcome.TheVariants.{Retired, Trap}
use Rattle.tpl_ast.specs.declared.template.HartState.{HartState}
use Rattle.tpl_admit.specs.declared.dropped.Dropped.{Dropped}
use Rattle.tpl_admit.specs.declared.dropped.Why.{Why}
use Rattle.tpl_admit.specs.declared.dropped.Why.TheVariants.{NoneFits, Spent}
use Rattle.byte_format.specs.Numbers.{half}
use Rattle.byte_format.specs.Internal.Readers.{◌>>=◌, byte_at, word_at, both, ahead, as_at, where_at, counted_at, few_at}
use Rattle.note_items.specs.Internal.Checks.{is_access, is_state}
use Rattle.tpl_ast.specs.Limits.{file_limits}

-- ---- numbers that stand for a case

abbrev pub priv_of : ℕ → Option Priv
priv_of n = if n == 0 then Some U else (if n == 1 then Some S else (if n == 3 then Some M else None))

abbrev pub role_of : ℕ → Option Role
role_of n = if n == 0 then Some Fetch else (if n == 1 then Some Walk else (if n == 2 then Some Load else (if n == 3 then Some Store else None)))

unfoldable pub outcome_of : ℕ → ℕ → ℕ → Option Outcome
outcome_of cause taker value =
    if cause == 255 then (if taker == 255 then (if value == 0 then Some Retired else None) else None)
    else (if is_cause cause then (priv_of taker >>= λ to. Some (Trap cause value to)) else None)

abbrev pub rd_of : ℕ → ℕ → Option (Option (ℕ × ℕ))
rd_of n value = if n == 0 then (if value == 0 then Some None else None) else (if nat_lt n 32 then Some (Some (n, value)) else None)

abbrev pub why_of : ℕ → Option Why
why_of n = if n == 0 then Some NoneFits else (if n == 1 then Some Spent else None)

-- ---- items

unfoldable pub priv_at : List ℕ → Option (Priv × List ℕ)
priv_at = as_at priv_of word_at

unfoldable pub pair_at : List ℕ → Option ((ℕ × ℕ) × List ℕ)
pair_at = both word_at word_at

abbrev pub state_of : (ℕ × (Priv × (ℕ × (ℕ × ℕ)))) × List (ℕ × ℕ) → Option HartState
state_of t = Some (record { pc = t.0.0; privilege = t.0.1.0; mstatus = t.0.1.1.0; medeleg = t.0.1.1.1.0; satp = t.0.1.1.1.1; places = t.1 })

unfoldable pub state_at : List ℕ → Option (HartState × List ℕ)
state_at = where_at is_state (as_at state_of (both (both word_at (both priv_at (both word_at (both word_at word_at)))) (counted_at pair_at)))

abbrev pub access_of : ℕ × (ℕ × (ℕ × ℕ)) → Option Access
access_of t = role_of t.1.1.0 >>= λ role. Some (record { role = role; addr = t.0; size = t.1.1.1; value = t.1.0 })

unfoldable pub access_at : List ℕ → Option (Access × List ℕ)
access_at = where_at is_access (as_at access_of (both word_at (both word_at (both byte_at (ahead byte_at (λ _. half 0))))))

unfoldable pub place_at : List ℕ → Option ((ℕ × (ℕ × ℕ)) × List ℕ)
place_at = both word_at (both word_at word_at)

unfoldable pub marks_at : List ℕ → Option ((Priv × (ℕ × (ℕ × ℕ))) × List ℕ)
marks_at = both (as_at priv_of byte_at) (both byte_at (both byte_at byte_at))

unfoldable pub values_at : List ℕ → Option ((ℕ × ℕ) × List ℕ)
values_at = both word_at word_at

abbrev pub record_of : (ℕ × (ℕ × ℕ)) × ((Priv × (ℕ × (ℕ × ℕ))) × ((ℕ × ℕ) × List Access)) → Option Record
record_of t = outcome_of t.1.0.1.0 t.1.0.1.1.0 t.1.1.0.1 >>= λ outcome. rd_of t.1.0.1.1.1 t.1.1.0.0 >>= λ rd.
    Some (record { pc = t.0.0; privilege = t.1.0.0; word = t.0.1.0; outcome = outcome; rd = rd; accesses = t.1.1.1; next_pc = t.0.1.1 })

unfoldable pub record_at : List ℕ → Option (Record × List ℕ)
record_at = as_at record_of (both place_at (both marks_at (both values_at (few_at file_limits.accesses access_at))))

-- the records of one hart
unfoldable pub trace_at : List ℕ → Option (List Record × List ℕ)
trace_at = counted_at record_at

abbrev pub dropped_of : ℕ × (ℕ × (ℕ × ℕ)) → Option Dropped
dropped_of t = why_of t.1.1.1 >>= λ why. Some (record { hart = t.0; step = t.1.0; atom = t.1.1.0; why = why })

unfoldable pub drop_at : List ℕ → Option (Dropped × List ℕ)
drop_at = as_at dropped_of (both word_at (both word_at (both word_at word_at)))
