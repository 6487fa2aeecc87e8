-- The threads of a run before they have seats.
use Rattle.std.specs.Prelude.{◌≡◌, ℕ, ◌<◌, ◌≤◌, ◌^◌, List, [], Some, false, length, slice_get, vec_capacity}
use Rattle.pg_crew.specs.pg_num.declared.limits.TheConstants.{THREAD_LIMIT}
use Rattle.pg_crew.specs.pg_ir.Program.{NumberedProgram}
use Rattle.pg_crew.specs.pg_run_trace.declared.schedule.Schedule.{Schedule}
use Rattle.pg_crew.specs.pg_law_runs.Deeds.{owners_of}
use Rattle.pg_crew.specs.pg_worker.declared.unseated.Unseated.{Unseated}
use Rattle.pg_crew.specs.pg_worker.Pages.{is_marked}
use Rattle.pg_crew.specs.pg_worker.Unseated.{IsUnseated}
use Rattle.pg_room.specs.declared.made.Threads.{Threads}

-- the threads of the program along the schedule, one after another
abbrev pub AreUnseated : NumberedProgram → Schedule → List Unseated → Type 0
AreUnseated p s us = (t : ℕ) (u : Unseated) → slice_get us t ≡ Some u → IsUnseated p s t u

-- each thread that owns a turn is among them, with room for as many workers, and no page is marked
pub record AreThreads (p : NumberedProgram) (s : Schedule) (made : Threads) : Type 0 where
  pub turns : length s.turns < 2 ^ 64
  pub threads : AreUnseated p s made.threads.items
  pub main : 0 < length made.threads.items
  pub few : length made.threads.items ≤ THREAD_LIMIT
  pub owners : (g t : ℕ) → slice_get (owners_of s.turns) g ≡ Some t → t < THREAD_LIMIT → t < length made.threads.items
  pub none : made.workers.items ≡ []
  pub room : length made.threads.items ≤ vec_capacity made.workers
  pub unmarked : (page : ℕ) → is_marked made.laid.words.items page ≡ false
  pub gated : made.gated ≡ s.gated
