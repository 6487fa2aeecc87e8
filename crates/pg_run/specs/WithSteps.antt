-- A walk and a guided run whose steps go into a recording, or nowhere.
use Rattle.std.specs.Prelude.{◌≡◌, ℕ, ℤ, List, [], ◌∷◌, ◌++◌, Bool, true, false, Option, Some, None, Result, Ok, Err}
use Rattle.pg_run_trace.specs.pg_ir.declared.ids.InstrId.{InstrId}
use Rattle.pg_run_trace.specs.pg_ir.Program.{NumberedProgram}
use Rattle.pg_run_trace.specs.declared.step.Step.{Step}
use Rattle.pg_run_trace.specs.declared.turn.Turn.{Turn}
use Rattle.pg_run_trace.specs.Recording.{Recording}
use Rattle.pg_run.specs.declared.guided_end.GuidedEnd.{GuidedEnd}
use Rattle.pg_run.specs.declared.guided_walk.Walked.{Walked}
use Rattle.pg_run.specs.State.{State}
use Rattle.pg_run.specs.MachineStep.{Stepped, Did, Trapped, step}
use Rattle.pg_run.specs.Guided.{GuidedRun, Walk, due}
use Rattle.pg_run.specs.Walked.{EndsAs}

-- with these steps too, where steps are recorded
abbrev pub with_steps : Bool → Recording → List Step → Recording
with_steps true r ts = record r { steps = r.steps ++ ts }
with_steps false r ts = r

abbrev pub told_by : Stepped → List Step
told_by (Did x s) = x ∷ []
told_by (Trapped name id) = []

-- ---- one step of a turn's owner

-- it was done, and it is the turn or not
pub record OwnerDid (gated : List InstrId) (p : NumberedProgram) (input : List ℤ) (u : Turn) (s z : State) (ts : List Step) (is_turn : Bool) : Type 0 where
  pub told : Step
  pub due_is : due gated p u s ≡ Ok is_turn
  pub step_is : step gated p input s u.thread.0 ≡ Did told z
  pub steps_are : ts ≡ told ∷ []

-- or the run's end comes before it
abbrev pub OwnerStepped : List InstrId → NumberedProgram → List ℤ → Turn → State → State → Bool → Recording → Recording → Result Bool GuidedEnd → Type 0
OwnerStepped gated p input u s z records q r (Ok is_turn) = (ts : List Step) × OwnerDid gated p input u s z ts is_turn × (r ≡ with_steps records q ts)
OwnerStepped gated p input u s z records q r (Err e) = (due gated p u s ≡ Err e) × (z ≡ s) × (r ≡ q)

-- ---- a walk, and a run

abbrev pub WalkEnds : Walk → State → ℕ → Option GuidedEnd → Bool → Recording → Recording → Type 0
WalkEnds w z n e records q r = (ts : List Step) × (w ≡ record { trace = ts; state = z; left = n; end = e }) × (r ≡ with_steps records q ts)

abbrev pub RunEnds : GuidedRun → State → ℕ → GuidedEnd → Bool → Recording → Recording → Type 0
RunEnds g s k e records q r = EndsAs g s k e × (r ≡ with_steps records q g.trace)

-- the end that comes before the next step of turn u's owner, who has so many steps left, or a step
abbrev pub EndsBefore : List InstrId → NumberedProgram → Turn → State → ℕ → Option Walked → Type 0
EndsBefore gated p u s n (Some w) = (e : GuidedEnd) × (due gated p u s ≡ Err e) × (w.end ≡ Some e) × (w.left ≡ n)
EndsBefore gated p u s n None = (is_turn : Bool) × (due gated p u s ≡ Ok is_turn)
