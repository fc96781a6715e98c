use Rattle.std.proofs.Common.{◌≡◌, ◌≤◌, ◌-◌, length}
use Rattle.std.specs.Io.KnownBytes.{Consumes}
use Rattle.streams.specs.Source.{AsksAtMost}
use Rattle.streams.proofs.source.read_up_to.Given as goal

abbrev pub invariant-loop-buf : goal.invariant-loop-buf
invariant-loop-buf g l = record {
  taken : Consumes (g.S.Source.left l.initial.source) (g.S.Source.left l.source) l.bytes.items;
  bound : length l.bytes.items ≤ l.limit;
  asked : AsksAtMost (g.S.Source.reads l.initial.source) (g.S.Source.reads l.source) (length l.bytes.items);
  none_failed : g.S.Source.faults l.source ≡ g.S.Source.faults l.initial.source;
  none_empty : g.S.Source.empty l.source ≡ g.S.Source.empty l.initial.source;
  idle : l.limit ≡ 0 → l.source ≡ l.initial.source;
}

abbrev pub decreases-loop-buf : goal.decreases-loop-buf
decreases-loop-buf g l = l.limit - length l.bytes.items
