-- Which bytes steps read and write, and when two steps meet.
use Rattle.std.specs.Prelude.{◌≡◌, ◌≢◌, ℕ, ◌+◌, ◌-◌, ◌&&◌, ◌||◌, nat_le, nat_lt, Bool, true, false, Option, Some, None, is_some, IfSome, length, slice_get}
use Rattle.std.specs.Prelude.{slice_index, if◌then◌else◌, ℤ}
use Rattle.pg_num.specs.Places.{ByteRange}
use Rattle.pg_ir.specs.Program.{NumberedProgram}
use Rattle.pg_run.specs.pg_run_memory.Bytes.{byte_of}
use Rattle.pg_run.specs.pg_run_memory.Memory.{byte_at}
use Rattle.pg_run.specs.State.{State}
use Rattle.pg_law_effects.specs.Effect.{Effect, MadeThread, RequestEffect, Write, effect_of}

-- ---- bytes

abbrev pub is_in : ByteRange → ℕ → Bool
is_in r b = nat_le r.start b && nat_lt b (r.start + r.bytes)

abbrev pub is_in_range : Option ByteRange → ℕ → Bool
is_in_range None b = false
is_in_range (Some r) b = is_in r b

-- a step reads this byte
abbrev pub reads_byte : Effect → ℕ → Bool
reads_byte e b = is_in_range e.reads b

abbrev pub byte_in : Option Write → ℕ → Option ℕ
byte_in None b = None
byte_in (Some w) b = if is_in w.at b then Some (byte_of w.number (b - w.at.start)) else None

-- what a step writes to this byte
abbrev pub byte_written : Effect → ℕ → Option ℕ
byte_written e b = byte_in e.writes b

abbrev pub writes_byte : Effect → ℕ → Bool
writes_byte e b = is_some (byte_written e b)

abbrev pub touches_byte : Effect → ℕ → Bool
touches_byte e b = reads_byte e b || writes_byte e b

-- both touch this byte, and one of them writes it
abbrev pub meets : ℕ → Effect → Effect → Bool
meets b e f = (writes_byte e b && touches_byte f b) || (touches_byte e b && writes_byte f b)

-- ---- steps that may change places

-- two steps of different threads, which aren't both requests and meet at no byte
pub record AreApart (e f : Effect) : Type 0 where
  pub threads : e.thread ≢ f.thread
  pub requests : (is_some e.request && is_some f.request) ≡ false
  pub bytes : (b : ℕ) → meets b e f ≡ false

-- ---- what a step depends on

abbrev pub made_by : Option RequestEffect → Option MadeThread
made_by None = None
made_by (Some r) = r.made

-- two states agree on what the effect e reads: its thread's local state, the bytes and the word, for a
-- request the objects, and for a create the number of threads
pub record AgreeFor (e : Effect) (s z : State) : Type 0 where
  pub local : slice_get s.locals e.thread ≡ slice_get z.locals e.thread
  pub bytes : (b : ℕ) → reads_byte e b ≡ true → byte_at s.memory b ≡ byte_at z.memory b
  pub word : IfSome e.word_read (λ t. slice_index s.words t ≡ slice_index z.words t)
  pub objects : is_some e.request ≡ true → s.sync ≡ z.sync
  pub threads : is_some (made_by e.request) ≡ true → length s.locals ≡ length z.locals
