-- What a sink into a buffer means.
use Rattle.std.specs.Prelude.{ℕ, ◌-◌, List, vec_items, vec_len}
use Rattle.sink.specs.Texts.{lines_in, Fitting}
use Rattle.sink.specs.declared.buffer.BufferSink.{BufferSink}

-- the lines of its text
abbrev pub buffer_taken : BufferSink → List (List ℕ)
buffer_taken s = lines_in (vec_items s.text)

-- what is left of its size
abbrev pub buffer_room : BufferSink → ℕ
buffer_room s = s.size - vec_len s.text

abbrev pub buffer_takes : BufferSink → List (List ℕ) → Type 0
buffer_takes s = Fitting (buffer_room s)
