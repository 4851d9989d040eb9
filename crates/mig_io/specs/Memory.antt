-- A source and a sink in memory: what each holds, which of its calls fail, and what a call does.
use Rattle.std.specs.Prelude.{ℕ, ◌-◌, ◌<◌, min, List, [], ◌++◌, length, drop, Contains, ◌⊎◌}
use Rattle.mig_io.specs.Outside.{next_count}

-- a source in memory
pub record SourceState : Type 0 where
  -- the bytes that it still holds
  pub left : List ℕ
  -- the greatest number of bytes that a call moves
  pub piece : ℕ
  -- the numbers of the calls that fail, the first call being 1
  pub failing : List ℕ
  -- how many calls there were, and how many of them failed; both counts stay at the greatest 64-bit number
  pub calls : ℕ
  pub faults : ℕ

-- a source that holds these bytes, before the first call
abbrev pub new_source : List ℕ → ℕ → List ℕ → SourceState
new_source bytes piece failing = record { left = bytes; piece = piece; failing = failing; calls = 0; faults = 0 }

-- the next call's number is listed
abbrev pub ReadFails : SourceState → Type 0
ReadFails source = Contains source.failing (next_count source.calls)

-- how many bytes a call that doesn't fail moves into a buffer of this length
abbrev pub read_size : SourceState → ℕ → ℕ
read_size source room = min (min source.piece room) (length source.left)

-- the source after a call that moved n bytes
abbrev pub after_read : SourceState → ℕ → SourceState
after_read source n = record source { left = drop n source.left; calls = next_count source.calls }

-- the source after a call that failed
abbrev pub after_failed_read : SourceState → SourceState
after_failed_read source = record source { calls = next_count source.calls; faults = next_count source.faults }

-- a sink in memory
pub record SinkState : Type 0 where
  -- all bytes taken
  pub held : List ℕ
  -- how many bytes it can take yet
  pub room : ℕ
  -- the greatest number of bytes that a call moves
  pub piece : ℕ
  -- the numbers of the calls that fail, the first call being 1
  pub failing : List ℕ
  -- how many calls there were, and how many of them failed; both counts stay at the greatest 64-bit number
  pub calls : ℕ
  pub faults : ℕ

-- a sink that holds no byte and has no room, before the first call
abbrev pub new_sink : ℕ → List ℕ → SinkState
new_sink piece failing = record { held = []; room = 0; piece = piece; failing = failing; calls = 0; faults = 0 }

-- how many bytes of a piece of this length a call takes, where it doesn't fail
abbrev pub write_size : SinkState → ℕ → ℕ
write_size sink size = min sink.piece size

-- the next call's number is listed, or the room doesn't hold what the call would take
abbrev pub WriteFails : SinkState → ℕ → Type 0
WriteFails sink size = Contains sink.failing (next_count sink.calls) ⊎ (sink.room < write_size sink size)

-- the sink after a call that took these bytes
abbrev pub after_write : SinkState → List ℕ → SinkState
after_write sink taken =
    record sink { held = sink.held ++ taken; room = sink.room - length taken; calls = next_count sink.calls }

-- the sink after a call that failed
abbrev pub after_failed_write : SinkState → SinkState
after_failed_write sink = record sink { calls = next_count sink.calls; faults = next_count sink.faults }
