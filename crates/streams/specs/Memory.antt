-- What sources and sinks over memory hold, and which of their calls fail.
use Rattle.std.specs.Prelude.{ℕ, List}
use Rattle.streams.specs.declared.memory.SureSource.{SureSource}
use Rattle.streams.specs.declared.memory.SureSink.{SureSink}
use Rattle.streams.specs.declared.memory.MemSource.{MemSource}
use Rattle.streams.specs.declared.memory.MemSink.{MemSink}

-- the bytes left
abbrev pub sure_source_left : SureSource → List ℕ
sure_source_left s = s.unread

-- the bytes held
abbrev pub sure_sink_held : SureSink → List ℕ
sure_sink_held s = s.stored.bytes.items

-- how many more bytes it has room for
abbrev pub sure_sink_room : SureSink → ℕ
sure_sink_room s = s.stored.room

-- the bytes left
abbrev pub mem_source_left : MemSource → List ℕ
mem_source_left s = s.unread

-- the most bytes that a read gives
abbrev pub mem_source_chunk : MemSource → ℕ
mem_source_chunk s = s.plan.chunk

-- the numbers of the reads that fail
abbrev pub mem_source_fails : MemSource → List ℕ
mem_source_fails s = s.plan.fails.items

-- the number of the last read, counted from 1, which stops at the largest u64
abbrev pub mem_source_calls : MemSource → ℕ
mem_source_calls s = s.plan.calls

-- how many reads have failed, up to the largest u64
abbrev pub mem_source_faults : MemSource → ℕ
mem_source_faults s = s.plan.faults

-- how many bytes were left when a read last failed, and 0 before that
abbrev pub mem_source_fault_at : MemSource → ℕ
mem_source_fault_at s = s.fault_at

-- how many reads took no byte and did not fail, up to the largest u64
abbrev pub mem_source_empty : MemSource → ℕ
mem_source_empty s = s.empty

-- the bytes held
abbrev pub mem_sink_held : MemSink → List ℕ
mem_sink_held s = s.stored.bytes.items

-- how many bytes it held when a write last failed, and 0 before that
abbrev pub mem_sink_fault_at : MemSink → ℕ
mem_sink_fault_at s = s.fault_at

-- how many more bytes it has room for
abbrev pub mem_sink_room : MemSink → ℕ
mem_sink_room s = s.stored.room

-- the most bytes that a write takes
abbrev pub mem_sink_chunk : MemSink → ℕ
mem_sink_chunk s = s.plan.chunk

-- the numbers of the writes that fail
abbrev pub mem_sink_fails : MemSink → List ℕ
mem_sink_fails s = s.plan.fails.items

-- the number of the last write, counted from 1, which stops at the largest u64
abbrev pub mem_sink_calls : MemSink → ℕ
mem_sink_calls s = s.plan.calls

-- how many writes have failed, up to the largest u64
abbrev pub mem_sink_faults : MemSink → ℕ
mem_sink_faults s = s.plan.faults
