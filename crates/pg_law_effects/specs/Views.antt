-- A state as local states, cells and objects: a thread that hasn't begun has no local state here, for the objects say
-- with which function it will begin, and its word is its argument.
use Rattle.std.specs.Prelude.{◌≡◌, ℕ, ◌-◌, ◌==◌, nat_lt, List, [], ◌∷◌, ◌++◌, map, Bool, true, false, Option, Some, None, is_some, slice_get, slice_set}
use Rattle.std.specs.Prelude.{slice_index, if◌then◌else◌}
use Rattle.pg_num.specs.declared.layout.TheConstants.{MEMORY_BYTES}
use Rattle.pg_run.specs.pg_run_memory.Memory.{byte_at}
use Rattle.pg_run.specs.pg_run_objects.Sync as sync
use Rattle.pg_run_thread.specs.LocalState.{LocalState}
use Rattle.pg_run_thread.specs.Step.{top_function}
use Rattle.pg_run.specs.State.{State}
use Rattle.pg_law_effects.specs.Effect.{Effect, MadeThread, RequestEffect, or_old}
use Rattle.pg_law_effects.specs.Meets.{byte_written, reads_byte}

-- ---- local states

abbrev pub begun_in : Option LocalState → Option LocalState
begun_in None = None
begun_in (Some l) = if l.begun then Some l else None

-- the local state of thread t, none where it isn't made or hasn't begun
abbrev pub local_at : State → ℕ → Option LocalState
local_at s t = begun_in (slice_get s.locals t)

-- ---- cells: the bytes of memory, and behind them a word for each thread

abbrev pub cell_at : State → ℕ → ℕ
cell_at s c = if nat_lt c MEMORY_BYTES then byte_at s.memory c else slice_index s.words (c - MEMORY_BYTES)

abbrev pub is_thread : Option ℕ → ℕ → Bool
is_thread None t = false
is_thread (Some u) t = u == t

-- a step reads this cell
abbrev pub reads_cell : Effect → ℕ → Bool
reads_cell e c = if nat_lt c MEMORY_BYTES then reads_byte e c else is_thread e.word_read (c - MEMORY_BYTES)

abbrev pub word_made : Option MadeThread → ℕ → Option ℕ → Option ℕ
word_made None t otherwise = otherwise
word_made (Some m) t otherwise = if m.local.thread == t then Some m.word else otherwise

abbrev pub word_in : ℕ → Option RequestEffect → ℕ → Option ℕ
word_in u None t = None
word_in u (Some r) t = word_made r.made t (if u == t then r.word else None)

-- what a step writes to this cell
abbrev pub cell_written : Effect → ℕ → Option ℕ
cell_written e c = if nat_lt c MEMORY_BYTES then byte_written e c else word_in e.thread e.request (c - MEMORY_BYTES)

-- ---- objects

-- the synchronisation objects, and for each thread that hasn't begun the function with which it will
pub record Objects : Type 0 where
  pub sync : sync.Sync
  pub starts : List (Option ℕ)

abbrev pub start_of : LocalState → Option ℕ
start_of l = if l.begun then None else Some (top_function l.frames)

abbrev pub objects_of : State → Objects
objects_of s = record { sync = s.sync; starts = map start_of s.locals }

abbrev pub start_made : Option MadeThread → List (Option ℕ) → List (Option ℕ)
start_made None fs = fs
start_made (Some m) fs = fs ++ start_of m.local ∷ []

-- the objects after a step of thread t, which changes them only as a request
abbrev pub objects_with : ℕ → Option RequestEffect → Objects → Objects
objects_with t None o = o
objects_with t (Some r) o = record { sync = r.objects; starts = slice_set (start_made r.made o.starts) t None }

-- ---- steps

-- from s a step that does e leads to z
pub record LeadsTo (e : Effect) (s z : State) : Type 0 where
  pub locals : (t : ℕ) → local_at z t ≡ (if t == e.thread then e.local else local_at s t)
  pub cells : (c : ℕ) → cell_at z c ≡ or_old (cell_written e c) (cell_at s c)
  pub objects : objects_of z ≡ objects_with e.thread e.request (objects_of s)

-- two states are alike in what e reads: its thread's local state, cells, and for a request the objects
pub record AreLikeFor (e : Effect) (s z : State) : Type 0 where
  pub local : local_at s e.thread ≡ local_at z e.thread
  pub cells : (c : ℕ) → reads_cell e c ≡ true → cell_at s c ≡ cell_at z c
  pub objects : is_some e.request ≡ true → objects_of s ≡ objects_of z
