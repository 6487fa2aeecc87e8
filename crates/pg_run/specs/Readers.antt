-- What is read of a thread's present call.
use Rattle.std.specs.Prelude.{ℕ, List, [], length, Option, Some, None, slice_get}
use Rattle.pg_run_thread.specs.LocalState.{Frame, LocalState}
use Rattle.pg_run_thread.specs.Operands.{flat}
use Rattle.pg_run_thread.specs.Step.{top_registers}
use Rattle.pg_run.specs.State.{State}

abbrev pub frames_in : Option LocalState → List Frame
frames_in None = []
frames_in (Some l) = l.frames

-- the open calls of thread t, the present one first; none where it isn't made or has ended
abbrev pub frames_of : State → ℕ → List Frame
frames_of s t = frames_in (slice_get s.locals t)

abbrev pub depth_of : State → ℕ → ℕ
depth_of s t = length (frames_of s t)

-- the value of a register of its present call, none where it was never set or isn't there
abbrev pub register_of : State → ℕ → ℕ → Option ℕ
register_of s t r = flat (slice_get (top_registers (frames_of s t)) r)
