-- The state of a run.
use Rattle.std.specs.Prelude.{ℕ, ℤ, List, [], ◌∷◌, Option, Some, None, slice_get}
use Rattle.pg_run_trace.specs.pg_num.Numbers.{signed, truncated}
use Rattle.pg_run_trace.specs.pg_num.declared.width.Width.TheVariants.{W32}
use Rattle.pg_run_trace.specs.pg_ir.Program.{NumberedProgram}
use Rattle.pg_run_memory.specs.Memory.{Words}
use Rattle.pg_run_memory.specs.Initial as memory
use Rattle.pg_run_objects.specs.Sync as sync
use Rattle.pg_run_thread.specs.declared.action.Action.{Action}
use Rattle.pg_run_thread.specs.declared.action.Action.TheVariants as actions
use Rattle.pg_run_thread.specs.LocalState.{LocalState, fresh}
use Rattle.pg_run_thread.specs.Step.{next}
use Rattle.pg_run_thread.specs.Told.{id_of}

-- the local state of each thread made, memory, the synchronisation objects, a word for each thread (its
-- argument until it ends, then its exit value), the printed bytes, and main's value, 0 before it has one
pub record State : Type 0 where
  pub locals : List LocalState
  pub memory : Words
  pub sync : sync.Sync
  pub words : List ℕ
  pub printed : List ℕ
  pub value : ℕ

unfoldable pub initial : NumberedProgram → State
initial p = record {
  locals = fresh p 0 p.main ∷ [];
  memory = memory.initial p.globals;
  sync = sync.fresh;
  words = 0 ∷ [];
  printed = [];
  value = 0;
}

-- main's value as an integer of 32 bits
abbrev pub exit_value_of : State → ℤ
exit_value_of s = signed W32 (truncated W32 s.value)

-- ---- a thread of the run by its number

abbrev pub action_in : NumberedProgram → Option LocalState → Action
action_in p None = actions.Ended
action_in p (Some l) = next p l

-- the next action of thread t, none where it isn't made
unfoldable pub next_of : NumberedProgram → State → ℕ → Action
next_of p s t = action_in p (slice_get s.locals t)

abbrev pub id_in : Option LocalState → ℕ
id_in None = 0
id_in (Some l) = id_of l

-- the number of the present instruction of thread t
unfoldable pub instr_of : State → ℕ → ℕ
instr_of s t = id_in (slice_get s.locals t)
