-- The run that a view holds: its shared steps as a plan, and the cells as its threads find them.
use Rattle.std.specs.Prelude.{ℕ, ℤ, ◌<◌, ◌^◌, List, [], length}
use Rattle.pg_law_course.specs.pg_ir.Program.{NumberedProgram}
use Rattle.pg_law_course.specs.pg_law_threads.Effects.{effects}
use Rattle.pg_law_course.specs.pg_law_threads.Intervals.{Timed}
use Rattle.pg_law_course.specs.pg_run_trace.declared.schedule.Schedule.{Schedule}
use Rattle.pg_law_course.specs.pg_law_runs.Cuts.{CanRun}
use Rattle.pg_law_course.specs.pg_law_runs.Deeds.{Did, Seen, owners_of}
use Rattle.pg_law_course.specs.pg_law_order.Good.{IsGoodRun}
use Rattle.pg_law_course.specs.Plan as plans
pub use Rattle.pg_law_course.specs.Course.{before}
use Rattle.pg_seats.specs.declared.run.Run.{Run}

abbrev pub run_of : NumberedProgram → Schedule → List ℤ → ℕ → Run
run_of p s input epoch = record { program = p; schedule = s; input = input; epoch = epoch }

-- a run that threads can take on their own along its turns, whose turns can be counted in a word
pub record IsEnforced (r : Run) : Type 0 where
  pub can : CanRun r.program r.input
  pub good : IsGoodRun r.program r.input r.schedule
  pub few : length r.schedule.turns < 2 ^ 64

-- the first state, as threads see it
abbrev pub first_of : Run → Seen
first_of r = plans.first_seen r.program

-- the plan: the shared steps of its full guided run, in order
abbrev pub plan_of : Run → List Did
plan_of r = plans.plan_of r.program r.input r.schedule

-- the threads that own its turns, in order
abbrev pub turns_in : Run → List ℕ
turns_in r = owners_of r.schedule.turns

-- the shared steps of thread t, each with its interval
abbrev pub own_of : Run → ℕ → List (Timed Did)
own_of r t = plans.own_plan r.program r.input r.schedule t

-- the cells as shared step m of thread t finds them in that run: the bytes of memory, and behind them a word for each thread
unfoldable pub cells_there : Run → ℕ → ℕ → ℕ → ℕ
cells_there r t m = (effects (first_of r) (before t m (plan_of r))).cells

-- some run, for a name that names none
abbrev pub no_run : Run
no_run = run_of (record { functions = []; blocks = []; instrs = []; globals = []; main = 0 }) (record { turns = []; replies = []; gated = [] }) [] 0
