-- Sources and sinks over std's readers and writers: what contracts see of them.
use Rattle.std.specs.Prelude.{ℕ}
use Rattle.adept_io.specs.{declared.standard.StdSource.StdSource, declared.standard.StdSink.StdSink}

-- the reader that a source reads
abbrev pub reader_of : {R : Type 0} → StdSource R → R
reader_of s = s.reader

-- how many of its reads failed
abbrev pub reader_faults : {R : Type 0} → StdSource R → ℕ
reader_faults s = s.faults

-- the writer that a sink writes to
abbrev pub writer_of : {W : Type 0} → StdSink W → W
writer_of s = s.writer

-- how many of its writes failed
abbrev pub writer_faults : {W : Type 0} → StdSink W → ℕ
writer_faults s = s.faults
