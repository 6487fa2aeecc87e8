-- The local state of a thread.
use Rattle.std.specs.Prelude.{ℕ, ◌+◌, ◌*◌, List, [], ◌∷◌, length, Bool, false, Option, None, replicate}
use Rattle.pg_ir.specs.pg_num.declared.layout.TheConstants.{GLOBALS_END, THREAD_GRANULES}
use Rattle.pg_run_thread.specs.declared.thread_memory.ThreadMemory.{ThreadMemory}
use Rattle.pg_ir.specs.Program.{NumberedProgram, types_of, entry_of}

-- one call: its function, the number of its present instruction, the value of each register that was
-- set, and how many granules of the thread's stack it and the calls below it have
pub record Frame : Type 0 where
  pub function : ℕ
  pub place : ℕ
  pub registers : List (Option ℕ)
  pub height : ℕ

-- a thread by its number, whether it has begun, whether it has done the first half of a wait, its
-- calls, the present one first, and how many granules its heap has; one that has ended has no call
pub record LocalState : Type 0 where
  pub thread : ℕ
  pub begun : Bool
  pub halfway : Bool
  pub frames : List Frame
  pub heap : ℕ

-- a thread that will begin with function f
unfoldable pub fresh : NumberedProgram → ℕ → ℕ → LocalState
fresh p t f = record {
  thread = t;
  begun = false;
  halfway = false;
  frames = record { function = f; place = entry_of p f; registers = replicate (length (types_of p f)) None; height = 0 } ∷ [];
  heap = 0;
}

-- ---- a thread's memory: its stack grows from the front, its heap from the end

-- the granule at which the memory of a thread begins
abbrev pub memory_start : ℕ → ℕ
memory_start t = GLOBALS_END + t * THREAD_GRANULES

abbrev pub top_height : List Frame → ℕ
top_height [] = 0
top_height (f ∷ fs) = f.height

abbrev pub own_memory : LocalState → ThreadMemory
own_memory l = record { thread = l.thread; stack = top_height l.frames; heap = l.heap }
