use Rattle.std.proofs.Common.{◌≡◌, length}
use Rattle.streams.specs.Sink.{HasRoom}
use Rattle.streams.proofs.Written.{Written}
use Rattle.streams.proofs.sink.write_whole.Given as goal

abbrev pub invariant-loop-rest : goal.invariant-loop-rest
invariant-loop-rest g l = record {
  written : Written (g.K.Sink.held l.initial.sink) (g.K.Sink.held l.sink) (g.K.Sink.room l.initial.sink) (g.K.Sink.room l.sink) l.text l.rest;
  room : HasRoom (g.K.Sink.room l.sink) (length l.rest);
  idle : length l.text ≡ 0 → l.sink ≡ l.initial.sink;
  none_failed : g.K.Sink.faults l.sink ≡ g.K.Sink.faults l.initial.sink;
}

abbrev pub decreases-loop-rest : goal.decreases-loop-rest
decreases-loop-rest g l = length l.rest
