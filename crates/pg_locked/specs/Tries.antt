-- What a thread that tries to take its next step is answered.
use Rattle.std.specs.Prelude.{◌≡◌, ℕ, ◌+◌, nat_le, List, [], ◌∷◌, Bool, true, false, Option, Some, None, is_some, slice_index, slice_set, if◌then◌else◌}
use Rattle.pg_law_course.specs.pg_num.declared.limits.TheConstants.{GUIDED_STEP_LIMIT}
use Rattle.pg_law_course.specs.pg_ir.Program.{NumberedProgram}
use Rattle.pg_law_course.specs.pg_run_trace.declared.step.Step.{Step}
use Rattle.pg_law_course.specs.pg_run_trace.declared.turn.Turn.{Turn}
use Rattle.pg_law_course.specs.pg_run.declared.machine.Next.{Next}
use Rattle.pg_law_course.specs.pg_run.declared.machine.Next.TheVariants as nexts
use Rattle.pg_law_course.specs.pg_run.Bound.{BoundState, next_step}
use Rattle.pg_law_course.specs.pg_run.Guided.{is_turn}
use Rattle.pg_law_course.specs.pg_run.MachineStep.{Did, step}
use Rattle.pg_law_course.specs.pg_run.Permitted.{has_turn}
use Rattle.pg_law_course.specs.pg_run.Runs.{event_of}
use Rattle.pg_locked.specs.declared.tried.Tried.{Tried}
use Rattle.pg_locked.specs.declared.tried.Tried.TheVariants as tried
use Rattle.pg_locked.specs.Standing.{Given, Standing, bound, left}

-- ---- before a step

abbrev pub unless_first : Turn → List Turn → Option Tried
unless_first v [] = Some tried.Waiting
unless_first v (u ∷ us) = if is_turn v u then None else Some tried.Waiting

-- why a thread may not take its next step, which is this, by whether it has one of the turns that are left and whether it has
-- spent its steps; none where it may
abbrev pub refusal_by : Next → Bool → Bool → List Turn → Option Tried
refusal_by nexts.NotMade has spent us = Some tried.NotMade
refusal_by nexts.Ended has spent us = Some tried.Ended
refusal_by n false spent us = Some tried.Ended
refusal_by (nexts.Trap name id) true spent us = Some tried.Stopped
refusal_by n true true us = Some tried.Stopped
refusal_by (nexts.Event v) true false us = unless_first v us
refusal_by (nexts.Other id) true false us = None

-- the same of thread t, which has taken so many steps, where these turns are left
abbrev pub refusal : NumberedProgram → BoundState → List Turn → ℕ → ℕ → Option Tried
refusal p m us taken t = refusal_by (next_step p m t) (has_turn t us) (nat_le GUIDED_STEP_LIMIT taken) us

-- the same of what lies under the lock
abbrev pub refusal_of : Given → ℕ → Standing → Option Tried
refusal_of g t v = refusal g.program (bound g v) (left g v) (slice_index v.taken t) t

-- ---- the answer

-- one step of thread t was taken, and nothing else
pub record Steps (g : Given) (t : ℕ) (old new : Standing) : Type 0 where
  pub taken : Step
  pub is_step : step g.schedule.gated g.program g.input old.state t ≡ Did taken new.state
  pub counts : new.taken ≡ slice_set old.taken t (slice_index old.taken t + 1)
  pub turns : new.done ≡ old.done + (if is_some (event_of taken) then 1 else 0)

-- the answer of a try: where the step may be taken, it was, or there was no memory for it; else why not. All is as it was where
-- no step was taken
abbrev pub Answers : Given → ℕ → Standing → Tried → Standing → Type 0
Answers g t old tried.Did new = (refusal_of g t old ≡ None) × Steps g t old new
Answers g t old tried.OutOfMemory new = (refusal_of g t old ≡ None) × (new ≡ old)
Answers g t old why new = (refusal_of g t old ≡ Some why) × (new ≡ old)
