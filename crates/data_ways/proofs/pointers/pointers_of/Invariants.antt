use Rattle.std.proofs.Common.{◌≡◌, ℕ, ◌/◌, ◌<◌, ◌^◌, Bool, ◌&&◌, take}
use Rattle.std.specs.List.{list_any}
use Rattle.row_parts.specs.Classes.{has_class}
use Rattle.data_ways.specs.Internal.Tables.{any_pointer, leads_on}
use Rattle.data_ways.proofs.pointers.pointers_of.Given as goal

abbrev pub invariant-loop-seen : goal.invariant-loop-seen
invariant-loop-seen l = (test : ℕ → Bool) (ea : ℕ) → ea < 2 ^ 32 → any_pointer l.pointers.items test ea ≡ list_any (λ k. has_class l.table k (ea / 2 ^ 22) && leads_on k test) (take l.seen-index l.kinds)
