-- What the full guided run along a schedule does, and the part of it that threads share.
use Rattle.std.specs.Prelude.{ℕ, ℤ, ◌||◌, List, Bool, is_some}
use Rattle.std.specs.List.{filter}
use Rattle.pg_ir.specs.Program.{NumberedProgram}
use Rattle.pg_law_threads.specs.Effects.{deeds}
use Rattle.pg_law_threads.specs.Intervals.{Timed, times, turns_done}
use Rattle.pg_law_threads.specs.Standing.{own}
use Rattle.pg_run_trace.specs.declared.schedule.Schedule.{Schedule}
use Rattle.pg_run_trace.specs.Steps.{access_of}
use Rattle.pg_run.specs.State.{initial}
use Rattle.pg_law_runs.specs.pg_law_effects.PermittedSteps.{none_taken}
use Rattle.pg_law_runs.specs.Deeds.{Did, Seen, deeds_of, owners_of, seen}
use Rattle.pg_law_order.specs.Good.{run_along}

-- the first state, as threads see it
abbrev pub first_seen : NumberedProgram → Seen
first_seen p = seen (initial p) none_taken

-- what the steps of the full guided run along the schedule do, in its order
unfoldable pub guided_deeds : NumberedProgram → List ℤ → Schedule → List Did
guided_deeds p input s = deeds_of p input (initial p) none_taken (run_along p input s).trace

-- how many turns it does
abbrev pub turn_count : NumberedProgram → List ℤ → Schedule → ℕ
turn_count p input s = turns_done deeds 0 (guided_deeds p input s)

-- a step that is an event or accesses memory
abbrev pub is_shared : Did → Bool
is_shared d = deeds.is_event d || is_some (access_of d.told)

-- the plan: the shared steps of that run, in its order
unfoldable pub plan_of : NumberedProgram → List ℤ → Schedule → List Did
plan_of p input s = filter is_shared (guided_deeds p input s)

-- those of thread t, each with its interval among the schedule's turns
abbrev pub own_plan : NumberedProgram → List ℤ → Schedule → ℕ → List (Timed Did)
own_plan p input s t = own t (times deeds (owners_of s.turns) 0 (plan_of p input s))
