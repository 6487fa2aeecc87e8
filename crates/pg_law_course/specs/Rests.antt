-- How threads rest where the full guided run ends.
use Rattle.std.specs.Prelude.{◌≡◌, ℕ, ℤ, ◌≤◌, ◌⊎◌, ◌||◌, nat_le, List, Bool, true, false, if◌then◌else◌}
use Rattle.pg_num.specs.Numbers.{signed, truncated}
use Rattle.pg_num.specs.declared.limits.TheConstants.{GUIDED_STEP_LIMIT}
use Rattle.pg_num.specs.declared.width.Width.TheVariants.{W32}
use Rattle.pg_ir.specs.Program.{NumberedProgram}
use Rattle.pg_law_threads.specs.Effects.{effects}
use Rattle.pg_run_thread.specs.declared.action.Action.{Action}
use Rattle.pg_run_thread.specs.declared.action.Action.TheVariants as actions
use Rattle.pg_run_thread.specs.LocalState.{LocalState}
use Rattle.pg_run_thread.specs.Step.{next}
use Rattle.pg_run_thread.specs.Told.{id_of}
use Rattle.pg_run_trace.specs.declared.schedule.Schedule.{Schedule}
use Rattle.pg_run.specs.declared.guided_end.GuidedEnd.{GuidedEnd}
use Rattle.pg_run.specs.declared.guided_end.GuidedEnd.TheVariants as ends
use Rattle.pg_law_runs.specs.Deeds.{goes_on, is_event_at}
use Rattle.pg_law_order.specs.Good.{run_along}
use Rattle.pg_law_course.specs.Plan.{first_seen, guided_deeds, turn_count}
use Rattle.pg_law_course.specs.Steps.{word_in}

abbrev pub is_trap : Action → Bool
is_trap (actions.Trap name) = true
is_trap action = false

-- the thread has spent its steps
abbrev pub has_spent : ℕ → Bool
has_spent k = nat_le GUIDED_STEP_LIMIT k

abbrev pub trap_end : ℕ → Action → GuidedEnd
trap_end id (actions.Trap name) = ends.Trap name (record { 0 = id })
trap_end id action = ends.Strayed

-- the end that thread t makes of a run that it holds, behind k of its steps and in the local state l
abbrev pub held_end : NumberedProgram → ℕ → ℕ → LocalState → GuidedEnd
held_end p t k l = if has_spent k then ends.Budget (record { 0 = t }) else trap_end (id_of l) (next p l)

-- thread t has done all of its k steps of the full guided run, is in the local state l, and its next turn of the schedule has the number g:
pub record RestsAt (p : NumberedProgram) (input : List ℤ) (s : Schedule) (t k : ℕ) (l : LocalState) (g : ℕ) : Type 0 where
  -- the run doesn't do that turn
  pub behind : turn_count p input s ≤ g
  -- the thread has ended, traps by itself, has spent its steps, or stands at an event
  pub rests : ((goes_on (next p l) ≡ false) ⊎ (has_spent k ≡ true)) ⊎ (is_event_at s.gated (id_of l) (next p l) ≡ true)
  -- where it is the first turn that the run doesn't do, the thread traps by itself or has spent its steps, and so the run ends
  pub held : g ≡ turn_count p input s → (is_trap (next p l) || has_spent k) ≡ true
  pub end : g ≡ turn_count p input s → (run_along p input s).end ≡ held_end p t k l

-- the cells that the full guided run leaves
abbrev pub cells_left : NumberedProgram → List ℤ → Schedule → ℕ → ℕ
cells_left p input s = (effects (first_seen p) (guided_deeds p input s)).cells

-- a run that does all turns exits with the word of the main thread
abbrev pub exit_end : NumberedProgram → List ℤ → Schedule → GuidedEnd
exit_end p input s = ends.Exit (signed W32 (truncated W32 (word_in (cells_left p input s) 0)))
