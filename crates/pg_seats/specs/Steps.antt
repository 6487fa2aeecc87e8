-- Where a seat stands in the course of its thread.
use Rattle.std.specs.Prelude.{◌≡◌, ℕ, ◌+◌, Bool, true, false, Some, slice_get}
use Rattle.pg_law_course.specs.pg_ir.declared.request.Request.TheVariants as requests
use Rattle.pg_law_course.specs.pg_run_thread.declared.action.Action.{Action}
use Rattle.pg_law_course.specs.pg_run_thread.declared.action.Action.TheVariants as actions
use Rattle.pg_law_course.specs.pg_run_thread.LocalState.{LocalState}
use Rattle.pg_law_course.specs.pg_run_thread.Step.{next}
use Rattle.pg_law_course.specs.pg_run_trace.Kinds.{kind_of}
use Rattle.pg_law_course.specs.pg_law_runs.Deeds.{Did}
use Rattle.pg_law_course.specs.Course as courses
use Rattle.pg_seats.specs.declared.run.Standing.{Standing}
use Rattle.pg_seats.specs.Plan.{IsEnforced}
use Rattle.pg_seats.specs.Views.{bit, kind_leaves}

-- step k of the seat's thread is d, which it takes in the local state l, and the seat has done the shared steps before it
pub record StandsBefore (w : Standing) (k : ℕ) (l : LocalState) (d : Did) : Type 0 where
  pub run_is : IsEnforced w.run
  pub step : slice_get (courses.course w.run.program w.run.input w.run.schedule w.thread) k ≡ Some d
  pub local : courses.state_at w.run.program w.run.input w.run.schedule w.thread k ≡ Some l
  pub done : w.done ≡ courses.shared_in w.run.program w.run.input w.run.schedule w.thread k

abbrev pub action_of : Standing → LocalState → Action
action_of w l = next w.run.program l

-- how many turns the run does before it, and what its cells are there
abbrev pub turns_there : Standing → ℕ → ℕ
turns_there w k = courses.turns_before w.run.program w.run.input w.run.schedule w.thread k

abbrev pub run_cells : Standing → ℕ → ℕ → ℕ
run_cells w k = courses.cells_before w.run.program w.run.input w.run.schedule w.thread k

-- whether an action that is a turn leaves a thread's word, and whether it has a store
abbrev pub leaves_of : Action → Bool
leaves_of (actions.Event r) = kind_leaves (kind_of r)
leaves_of action = false

abbrev pub stores_of : Action → Bool
stores_of (actions.Store q n) = true
stores_of (actions.Event (requests.Create q f n)) = true
stores_of (actions.Event (requests.Join u (Some q))) = true
stores_of action = false

-- how many parts it has
abbrev pub parts_of : Action → ℕ
parts_of action = bit (leaves_of action) + bit (stores_of action)
