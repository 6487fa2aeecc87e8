-- A rotation run whose steps aren't kept: of each it is known whose it was, and whether it was an event.
use Rattle.std.specs.Prelude.{◌≡◌, ◌<◌, ℕ, suc, ◌==◌, ℤ, List, [], ◌∷◌, length, map, Bool, true, false, Result, Ok, Err, is_some}
use Rattle.std.specs.List.{list_all}
use Rattle.pg_run_trace.specs.pg_ir.Program.{NumberedProgram}
use Rattle.pg_run_thread.specs.declared.action.Action.{Action}
use Rattle.pg_run_thread.specs.declared.action.Action.TheVariants as actions
use Rattle.pg_run_trace.specs.declared.step.Step.{Step}
use Rattle.pg_run_trace.specs.Races.{with_gated}
use Rattle.pg_run_trace.specs.Steps.{event_of, events}
use Rattle.pg_run.specs.declared.outcome.Outcome.{Outcome}
use Rattle.pg_run.specs.declared.share.Share.{Share}
use Rattle.pg_run.specs.declared.alone.Left.{Left}
use Rattle.pg_run.specs.State.{State}
use Rattle.pg_run.specs.MachineStep.{step}
use Rattle.pg_run.specs.Rotation.{RunResult, on_step, onto, run, stop}

-- all of these steps are main's
abbrev pub are_mains : List Step → Bool
are_mains xs = list_all (λ (x : Step). x.thread.0 == 0) xs

-- how many of these steps are events where no loads and stores are
abbrev pub count_of : List Step → ℕ
count_of xs = length (events (map (with_gated []) xs))

-- an action is an event where no loads and stores are
abbrev pub is_asking : Action → Bool
is_asking (actions.Event r) = true
is_asking action = false

-- a step of a thread that is made, which is an event or not
pub record Passed (s : State) (is_event : Bool) (told : Step) : Type 0 where
  pub made : told.thread.0 < length s.locals
  pub event : is_some (event_of (with_gated [] told)) ≡ is_event

-- the step of the thread whose share this is was done, or the run ends in its place
abbrev pub StepLeft : NumberedProgram → List ℤ → State → Share → State → Result Left Outcome → Type 0
StepLeft p input s u z (Ok l) =
    (x : Step) × Passed s l.is_event x × ((more : State → Share → RunResult) → on_step s u (step [] p input s u.thread.0) more ≡ onto (x ∷ []) (more z l.share))
StepLeft p input s u z (Err e) = (more : State → Share → RunResult) → on_step s u (step [] p input s u.thread.0) more ≡ stop z e

-- the next step of the run was done, or its end comes
abbrev pub TurnLeft : NumberedProgram → List ℤ → ℕ → State → Share → State → Result Left Outcome → Type 0
TurnLeft p input q s u z (Ok l) = (x : Step) × Passed s l.is_event x × ((n : ℕ) → run (suc n) p input q s u ≡ onto (x ∷ []) (run n p input q z l.share))
TurnLeft p input q s u z (Err e) = (n : ℕ) → run (suc n) p input q s u ≡ stop z e

-- a run of main alone ends in this state and by this end, and so many of its steps are events
pub record RunAlone (r : RunResult) (z : State) (e : Outcome) (count : ℕ) : Type 0 where
  pub state : z ≡ r.state
  pub end : e ≡ r.end
  pub mains : are_mains r.trace ≡ true
  pub counted : count ≡ count_of r.trace
