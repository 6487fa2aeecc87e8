-- The course of a thread: its steps in the full guided run, shared or not, and what stands before each of them.
use Rattle.std.specs.Prelude.{ℕ, zero, suc, ℤ, ◌==◌, List, [], ◌∷◌, length, take, Option, Some, None, slice_get, if◌then◌else◌}
use Rattle.std.specs.List.{filter}
use Rattle.pg_ir.specs.Program.{NumberedProgram}
use Rattle.pg_law_threads.specs.Effects.{deeds, effects}
use Rattle.pg_law_threads.specs.Intervals.{turns_done}
use Rattle.pg_law_threads.specs.Plans.{is_of_thread}
use Rattle.pg_run_thread.specs.LocalState.{LocalState, fresh}
use Rattle.pg_run_trace.specs.declared.schedule.Schedule.{Schedule}
use Rattle.pg_run_trace.specs.declared.turn.Turn.{Turn}
use Rattle.pg_law_runs.specs.Deeds.{Did, owners_of}
use Rattle.pg_law_course.specs.Plan.{first_seen, guided_deeds, is_shared}
use Rattle.pg_law_course.specs.Threads.{start_function}

-- the steps of thread t in the full guided run, those that only the thread sees too
abbrev pub course : NumberedProgram → List ℤ → Schedule → ℕ → List Did
course p input s t = filter (is_of_thread t) (guided_deeds p input s)

abbrev pub local_behind : Option Did → Option LocalState
local_behind None = None
local_behind (Some d) = d.to.local

-- the local state of thread t behind k of its steps
abbrev pub state_at : NumberedProgram → List ℤ → Schedule → ℕ → ℕ → Option LocalState
state_at p input s t zero = Some (fresh p t (start_function p s.turns t))
state_at p input s t (suc k) = local_behind (slice_get (course p input s t) k)

-- how many of its first k steps are shared
abbrev pub shared_in : NumberedProgram → List ℤ → Schedule → ℕ → ℕ → ℕ
shared_in p input s t k = length (filter is_shared (take k (course p input s t)))

-- how many of its first k steps are turns
abbrev pub turns_in : NumberedProgram → List ℤ → Schedule → ℕ → ℕ → ℕ
turns_in p input s t k = length (filter deeds.is_event (take k (course p input s t)))

-- the numbers of thread t's turns, ascending, where these threads own the turns and the first has the number g
abbrev pub turns_from : ℕ → ℕ → List ℕ → List ℕ
turns_from t g [] = []
turns_from t g (o ∷ os) = if t == o then g ∷ turns_from t (suc g) os else turns_from t (suc g) os

abbrev pub turns_of : ℕ → List Turn → List ℕ
turns_of t turns = turns_from t 0 (owners_of turns)

-- the number of the schedule's turn that is the next of thread t behind k of its steps, none where it has no turn left
abbrev pub next_turn : NumberedProgram → List ℤ → Schedule → ℕ → ℕ → Option ℕ
next_turn p input s t k = slice_get (turns_of t s.turns) (turns_in p input s t k)

-- ---- before a step

-- what stands in a run before the step of thread t with the number k, counted from 0
abbrev pub before : ℕ → ℕ → List Did → List Did
before t k [] = []
before t zero (d ∷ ds) = if t == d.thread then [] else d ∷ before t zero ds
before t (suc k) (d ∷ ds) = if t == d.thread then d ∷ before t k ds else d ∷ before t (suc k) ds

-- the cells as that step of the full guided run finds them
abbrev pub cells_before : NumberedProgram → List ℤ → Schedule → ℕ → ℕ → ℕ → ℕ
cells_before p input s t k = (effects (first_seen p) (before t k (guided_deeds p input s))).cells

-- how many turns are done before it
abbrev pub turns_before : NumberedProgram → List ℤ → Schedule → ℕ → ℕ → ℕ
turns_before p input s t k = turns_done deeds 0 (before t k (guided_deeds p input s))
