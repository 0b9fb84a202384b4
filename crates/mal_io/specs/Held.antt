-- What the devices of this crate hold.
use Rattle.std.specs.Prelude.{ℕ, List, Some}
use Rattle.std.specs.declared.option.Option.{Option}
use Rattle.mal_io.specs.declared.memory.Calls.{Calls}
use Rattle.mal_io.specs.declared.memory.MemSource.{MemSource}
use Rattle.mal_io.specs.declared.memory.MemSink.{MemSink}
use Rattle.mal_io.specs.declared.standard.Counted.{Counted}

-- the bytes that a source in memory has left
abbrev pub source_left : MemSource → Option (List ℕ)
source_left s = Some s.bytes.now

-- the calls of a source in memory
abbrev pub source_calls : MemSource → Calls
source_calls s = s.calls

-- the bytes that a sink in memory got
abbrev pub sink_got : MemSink → Option (List ℕ)
sink_got s = Some s.bytes.items

-- for how many more bytes a sink in memory has room
abbrev pub sink_room : MemSink → ℕ
sink_room s = s.room

-- the calls of a sink in memory
abbrev pub sink_calls : MemSink → Calls
sink_calls s = s.calls

-- the reader or writer of a device over std
abbrev pub device : {D : Type 0} → Counted D → D
device d = d.inner

-- how often it has failed
abbrev pub device_faults : {D : Type 0} → Counted D → ℕ
device_faults d = d.faults
