-- What contracts see of a sink in memory that takes a part of a long piece.
use Rattle.std.specs.Prelude.{ℕ, min, Bool, List, length, take}
use Rattle.pg_io.specs.Memory.{MemorySinkState, after_failed_write, after_write, write_fails}

-- the sink that takes the parts, and how many bytes a call takes at most
pub record ShortSinkState : Type 0 where
  pub sink : MemorySinkState
  pub piece : ℕ

-- how many bytes of this piece a call takes
abbrev pub short_count : ShortSinkState → List ℕ → ℕ
short_count s piece = min s.piece (length piece)

-- the part of this piece that a call takes
abbrev pub short_part : ShortSinkState → List ℕ → List ℕ
short_part s piece = take (short_count s piece) piece

-- the next write of this piece fails
abbrev pub short_write_fails : ShortSinkState → List ℕ → Bool
short_write_fails s piece = write_fails s.sink (short_part s piece)

-- the sink after a write that failed
abbrev pub after_failed_short_write : ShortSinkState → ShortSinkState
after_failed_short_write s = record s { sink = after_failed_write s.sink }

-- the sink after it took the front of the piece
abbrev pub after_short_write : List ℕ → ShortSinkState → ShortSinkState
after_short_write piece s = record s { sink = after_write (short_part s piece) s.sink }
