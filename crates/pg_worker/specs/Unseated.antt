-- Threads before they have a seat.
use Rattle.std.specs.Prelude.{◌≡◌, ℕ, ◌<◌, ◌≤◌, [], length, false, vec_capacity}
use Rattle.pg_seats.specs.pg_num.declared.limits.TheConstants.{THREAD_LIMIT}
use Rattle.pg_seats.specs.pg_ir.Program.{NumberedProgram}
use Rattle.pg_seats.specs.pg_run_thread.LocalState.{fresh}
use Rattle.pg_seats.specs.pg_run_thread.States.{IsOf}
use Rattle.pg_seats.specs.pg_run_trace.declared.schedule.Schedule.{Schedule}
use Rattle.pg_seats.specs.pg_law_course.Course.{turns_of}
use Rattle.pg_seats.specs.pg_law_course.Threads.{start_function}
use Rattle.pg_worker.specs.declared.unseated.Unseated.{Unseated}
use Rattle.pg_worker.specs.Pages.{is_marked}

-- thread t of the program along the schedule, before its first step
pub record IsUnseated (p : NumberedProgram) (s : Schedule) (t : ℕ) (u : Unseated) : Type 0 where
  pub thread : u.thread.0 ≡ t
  pub small : t < THREAD_LIMIT
  pub fiber : u.fiber ≡ fresh p t (start_function p s.turns t)
  pub of : IsOf p u.fiber
  pub turns : u.turns.items ≡ turns_of t s.turns
  pub none : u.prints.items ≡ []
  pub room : length u.turns.items ≤ vec_capacity u.prints
  pub unmarked : (page : ℕ) → is_marked u.pages.words.items page ≡ false
