-- What lies under the lock of a run along a schedule: a machine, and where its threads stand.
use Rattle.std.specs.Prelude.{◌≡◌, ℕ, ◌≤◌, ◌<◌, ℤ, List, [], length, Some, slice_get, slice_index, sum, drop}
use Rattle.pg_law_course.specs.pg_num.declared.limits.TheConstants.{GUIDED_STEP_LIMIT, THREAD_LIMIT}
use Rattle.pg_law_course.specs.pg_ir.declared.ids.InstrId.{InstrId}
use Rattle.pg_law_course.specs.pg_ir.declared.request.TrapName.{TrapName}
use Rattle.pg_law_course.specs.pg_ir.Program.{NumberedProgram}
use Rattle.pg_law_course.specs.pg_run_trace.declared.schedule.Schedule.{Schedule}
use Rattle.pg_law_course.specs.pg_run_trace.declared.step.Step.{Step}
use Rattle.pg_law_course.specs.pg_run_trace.declared.turn.Turn.{Turn}
use Rattle.pg_law_course.specs.pg_run.declared.guided_end.GuidedEnd.{GuidedEnd}
use Rattle.pg_law_course.specs.pg_run.declared.machine.Next.TheVariants as nexts
use Rattle.pg_law_course.specs.pg_run.Bound.{BoundState, next_step}
use Rattle.pg_law_course.specs.pg_run.Machine.{IsMachine}
use Rattle.pg_law_course.specs.pg_run.Permitted.{IsPermitted}
use Rattle.pg_law_course.specs.pg_run.Runs.{events, steps_of}
use Rattle.pg_law_course.specs.pg_run.State.{State}
use Rattle.pg_law_course.specs.pg_law_runs.Cuts.{CanRun, IsAtCut}
use Rattle.pg_law_course.specs.pg_law_order.Good.{IsGoodRun, run_along}
use Rattle.pg_law_course.specs.pg_law_order.Served.{guided_along}

-- what a run is computed from
pub record Given : Type 0 where
  pub program : NumberedProgram
  pub schedule : Schedule
  pub input : List ℤ

abbrev pub given : NumberedProgram → Schedule → List ℤ → Given
given p s input = record { program = p; schedule = s; input = input }

-- some run, for a name that names none
abbrev pub no_run : Given
no_run = given (record { functions = []; blocks = []; instrs = []; globals = []; main = 0 }) (record { turns = []; replies = []; gated = [] }) []

-- what contracts see of it: the state, how many steps each thread has taken, and how many turns are done
pub record Standing : Type 0 where
  pub state : State
  pub taken : List ℕ
  pub done : ℕ

-- the turns that are left
abbrev pub left : Given → Standing → List Turn
left g v = drop v.done g.schedule.turns

-- the machine in that state
abbrev pub bound : Given → Standing → BoundState
bound g v = record { state = v.state; input = g.input; gated = g.schedule.gated }

-- the machine is that of the run, which workers may make, and steps that its turns permit led to its state
pub record IsLocked (g : Given) (p : NumberedProgram) (s : Schedule) (m : BoundState) (taken : List ℕ) (done : ℕ) : Type 0 where
  pub same : given p s m.input ≡ g
  pub gated : m.gated ≡ s.gated
  pub can : CanRun p m.input
  pub good : IsGoodRun p m.input s
  pub machine : IsMachine p m.state
  pub wide : length taken ≡ THREAD_LIMIT
  pub few : done ≤ sum taken
  pub steps : List Step
  pub permitted : IsPermitted p m.input s.turns s.gated steps m.state
  pub done_is : length (events steps) ≡ done
  pub counts : (t : ℕ) → t < length taken → slice_index taken t ≡ steps_of t steps

-- it stands at a cut of the full guided run: at the one at which each thread has taken so many steps, and so many turns are done
pub record StandsAtCut (g : Given) (v : Standing) : Type 0 where
  pub steps : List Step
  pub cut : IsAtCut g.program g.input g.schedule.turns g.schedule.gated (run_along g.program g.input g.schedule).trace steps v.state
  pub counts : (t : ℕ) → t < THREAD_LIMIT → slice_index v.taken t ≡ steps_of t steps
  pub turns : v.done ≡ length (events steps)

-- the run has ended so, as far as others see: as the guided run
pub record EndsAsGuided (g : Given) (v : Standing) (how : GuidedEnd) : Type 0 where
  pub printed : v.state.printed ≡ (guided_along g.program g.input g.schedule).state.printed
  pub end : how ≡ (guided_along g.program g.input g.schedule).end
  pub turns : v.done ≡ (guided_along g.program g.input g.schedule).turns

-- a turn is left, and its owner has a step left and doesn't trap by itself
pub record GoesOn (g : Given) (v : Standing) : Type 0 where
  pub turn : Turn
  pub next : slice_get g.schedule.turns v.done ≡ Some turn
  pub few : slice_index v.taken turn.thread.0 < GUIDED_STEP_LIMIT
  pub goes : (name : TrapName) (id : InstrId) → next_step g.program (bound g v) turn.thread.0 ≡ nexts.Trap name id → ⊥
