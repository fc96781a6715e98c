-- What the adapters keep beside std's reader or writer.
use Rattle.std.specs.Prelude.{ℕ}
use Rattle.streams.specs.declared.adapters.ReadSource.{ReadSource}
use Rattle.streams.specs.declared.adapters.WriteSink.{WriteSink}

-- the reader
abbrev pub adapted_reader : {R : Type 0} → ReadSource R → R
adapted_reader s = s.inner

-- how many of its reads have failed, up to the largest u64
abbrev pub reader_faults : {R : Type 0} → ReadSource R → ℕ
reader_faults s = s.faults

-- the writer
abbrev pub adapted_writer : {W : Type 0} → WriteSink W → W
adapted_writer s = s.inner

-- how many of its writes have failed, or taken nothing of some bytes, up to the largest u64
abbrev pub writer_faults : {W : Type 0} → WriteSink W → ℕ
writer_faults s = s.faults
