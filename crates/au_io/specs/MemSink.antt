-- What a clause reads of a sink in memory: what was put, and which puts fail.
-- Each is a function of the sink, since its fields are its own.
use Rattle.std.specs.Prelude.{ℕ, List}
use Rattle.au_io.specs.declared.mem_sink.MemSink.{MemSink}

-- the bytes that were put
abbrev pub sink_bytes : MemSink → List ℕ
sink_bytes s = s.bytes.items

-- the numbers of the puts that fail, each with how many bytes the put takes
abbrev pub sink_failing : MemSink → List (ℕ × ℕ)
sink_failing s = s.failing.items

-- the number of the next put
abbrev pub sink_puts : MemSink → ℕ
sink_puts s = s.puts

-- how many puts failed
abbrev pub sink_faults : MemSink → ℕ
sink_faults s = s.faults
