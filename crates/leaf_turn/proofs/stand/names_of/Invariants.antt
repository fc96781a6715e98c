use Rattle.std.proofs.Common.{◌≡◌, ℕ, ◌<◌, length}
use Rattle.std.specs.Prelude.{None, slice_get, slice_index_or}
use Rattle.leaf_stand.specs.Stands.{set_named, value_named}
use Rattle.leaf_turn.specs.Grounds.{declared_set}
use Rattle.leaf_turn.proofs.stand.names_of.Given as goal

abbrev pub invariant-loop-number : goal.invariant-loop-number
invariant-loop-number l = record {
  count : length l.names.items ≡ l.number;
  values : (n : ℕ) → n < l.number → slice_index_or l.part.now.names n None ≡ value_named (slice_get l.names.items n);
  sets : (n : ℕ) → n < l.number → declared_set (slice_get l.t.names n) ≡ set_named (slice_get l.names.items n);
}
