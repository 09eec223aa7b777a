-- What a clause reads of a std reader or writer that is wrapped as a source or a sink.
use Rattle.std.specs.Prelude.{ℕ}
use Rattle.flit_outside.specs.declared.standard.StdSource.{StdSource}
use Rattle.flit_outside.specs.declared.standard.StdSink.{StdSink}

-- the reader
abbrev pub source_reader : {R : Type 0} → StdSource R → R
source_reader s = s.inner

-- how many reads have failed, up to 2^64 - 1
abbrev pub source_faults : {R : Type 0} → StdSource R → ℕ
source_faults s = s.faults

-- the writer
abbrev pub sink_writer : {W : Type 0} → StdSink W → W
sink_writer s = s.inner

-- how many writes have failed, up to 2^64 - 1
abbrev pub sink_faults : {W : Type 0} → StdSink W → ℕ
sink_faults s = s.faults
