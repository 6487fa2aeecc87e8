-- What contracts see of a source and a sink in memory, and what each call on them gives.
use Rattle.std.specs.Prelude.{ℕ, ◌+◌, min, Bool, not, ◌&&◌, ◌||◌, ◌==◌, nat_lt, List, [], ◌++◌, length, drop}
use Rattle.std.specs.List.{list_any}
use Rattle.pg_io.specs.Faults.{raised}

-- the bytes that are left, how many of them a call gives at most, the numbers of the calls that fail,
-- how many calls there were, how many of them failed, and whether one gave no byte
pub record MemorySourceState : Type 0 where
  pub rest : List ℕ
  pub piece : ℕ
  pub failing : List ℕ
  pub calls : ℕ
  pub count : ℕ
  pub ended : Bool

-- the bytes that were taken, how many there is room for in all, the numbers of the calls that fail,
-- how many calls there were, and how many of them failed
pub record MemorySinkState : Type 0 where
  pub bytes : List ℕ
  pub room : ℕ
  pub failing : List ℕ
  pub calls : ℕ
  pub count : ℕ

-- a sink before the first call, with this room
abbrev pub empty_sink : ℕ → List ℕ → MemorySinkState
empty_sink room failing = record { bytes = []; room = room; failing = failing; calls = 0; count = 0 }

-- the bytes that are left, and how many of them a call gives at most
pub record SureSourceState : Type 0 where
  pub rest : List ℕ
  pub piece : ℕ

-- the call of this number is one of those that fail
abbrev pub is_listed : List ℕ → ℕ → Bool
is_listed failing call = list_any (λ k. k == call) failing

-- the next read fails
abbrev pub read_fails : MemorySourceState → Bool
read_fails s = not s.ended && is_listed s.failing s.calls

-- how many of these bytes a read gives to a buffer with this room, at most a piece
abbrev pub given_count : List ℕ → ℕ → ℕ → ℕ
given_count rest piece room = min (min piece room) (length rest)

-- the source after a read that failed
abbrev pub after_failed_read : MemorySourceState → MemorySourceState
after_failed_read s = record s { calls = raised s.calls; count = raised s.count }

-- the source after a read that gave n bytes
abbrev pub after_read : ℕ → MemorySourceState → MemorySourceState
after_read n s = record s { rest = drop n s.rest; calls = raised s.calls; ended = s.ended || (n == 0) }

-- the next write of this piece fails
abbrev pub write_fails : MemorySinkState → List ℕ → Bool
write_fails s piece = is_listed s.failing s.calls || nat_lt s.room (length s.bytes + length piece)

-- the sink after a write that failed
abbrev pub after_failed_write : MemorySinkState → MemorySinkState
after_failed_write s = record s { calls = raised s.calls; count = raised s.count }

-- the sink after it took the piece
abbrev pub after_write : List ℕ → MemorySinkState → MemorySinkState
after_write piece s = record s { bytes = s.bytes ++ piece; calls = raised s.calls }
