-- What lies under the lock of a recording: a machine, the steps that led to its state, and what was noted.
use Rattle.std.specs.Prelude.{◌≡◌, ◌≢◌, ◌≤◌, ◌<◌, ◌⊎◌, ◌∷◌, ◌++◌, ℕ, ℤ, Bool, List, Option, [], length, true, false, None, Some}
use Rattle.pg_num.specs.declared.limits.TheConstants.{RECORDING_STEP_LIMIT}
use Rattle.pg_ir.specs.Program.{NumberedProgram}
use Rattle.pg_ir.specs.declared.ids.ThreadNo.{ThreadNo}
use Rattle.pg_ir.specs.declared.ids.InstrId.{InstrId}
use Rattle.pg_ir.specs.declared.request.TrapName.{TrapName}
use Rattle.pg_run_trace.specs.declared.step.Step.{Step}
use Rattle.pg_run_trace.specs.Recording.{Recording}
use Rattle.pg_run.specs.Bound.{BoundState}
use Rattle.pg_run.specs.Machine.{IsMachine}
use Rattle.pg_run.specs.MachineStep.{Did, Trapped, ready, step}
use Rattle.pg_run.specs.Runs.{IsRun}
use Rattle.pg_run.specs.State.{State, initial}
use Rattle.pg_free.specs.declared.noted.Noted.{Noted}
use Rattle.pg_free.specs.declared.noted.Noted.TheVariants as noted

-- what contracts see of it: the program and the input that it was made for, the steps that were taken, the state to which they
-- led, and what was noted
pub record FreeRun : Type 0 where
  pub program : NumberedProgram
  pub input : List ℤ
  pub steps : List Step
  pub state : State
  pub noted : Option Noted

-- ---- what is kept

-- a trap that was noted is the next step of a thread that is ready
abbrev pub IsNoted : NumberedProgram → List ℤ → State → Option Noted → Type 0
IsNoted p input s None = Unit {0}
IsNoted p input s (Some (noted.Trap t name id)) = (ready p s t.0 ≡ true) × (step [] p input s t.0 ≡ Trapped name id.0)
IsNoted p input s (Some noted.NoMemory) = Unit {0}

-- the steps are a run of the program from the first state to that of the machine, as many as a recording may have at most, and
-- what was noted is true of that state
pub record IsHistory (p : NumberedProgram) (m : BoundState) (t : Recording) (n : Option Noted) : Type 0 where
  pub run : IsRun [] p m.input (initial p) t.steps m.state
  pub plain : m.gated ≡ []
  pub machine : IsMachine p m.state
  pub room : t.room ≡ RECORDING_STEP_LIMIT
  pub short : length t.steps ≤ RECORDING_STEP_LIMIT
  pub noted : IsNoted p m.input m.state n

-- it was made for this program and this input
pub record IsFor (p : NumberedProgram) (input : List ℤ) (s : FreeRun) : Type 0 where
  pub same_program : s.program ≡ p
  pub same_input : s.input ≡ input

-- ---- one attempt

-- a step of the thread is tried: nothing was noted, a recording may have a step more, and the thread is ready
pub record MayTry (t : ℕ) (s : FreeRun) : Type 0 where
  pub nothing : s.noted ≡ None
  pub left : length s.steps < RECORDING_STEP_LIMIT
  pub is_ready : ready s.program s.state t ≡ true

-- one of these doesn't hold
abbrev pub MayNotTry : ℕ → FreeRun → Type 0
MayNotTry t s = (s.noted ≢ None) ⊎ ((length s.steps ≡ RECORDING_STEP_LIMIT) ⊎ (ready s.program s.state t ≡ false))

-- one step of the thread was taken
pub record Steps (t : ThreadNo) (old new : FreeRun) : Type 0 where
  pub may : MayTry t.0 old
  pub of : IsFor old.program old.input new
  pub taken : Step
  pub is_step : step [] old.program old.input old.state t.0 ≡ Did taken new.state
  pub steps : new.steps ≡ old.steps ++ taken ∷ []
  pub nothing : new.noted ≡ None

-- the step traps, which is noted
pub record NotesTrap (t : ThreadNo) (old : FreeRun) (now : Option Noted) : Type 0 where
  pub may : MayTry t.0 old
  pub name : TrapName
  pub id : InstrId
  pub traps : step [] old.program old.input old.state t.0 ≡ Trapped name id.0
  pub is_noted : now ≡ Some (noted.Trap t name id)

-- there is no memory for the step, which is noted
pub record NotesNoMemory (t : ThreadNo) (old : FreeRun) (now : Option Noted) : Type 0 where
  pub may : MayTry t.0 old
  pub is_noted : now ≡ Some noted.NoMemory

-- no step was taken, and why
pub record Stays (t : ThreadNo) (old new : FreeRun) : Type 0 where
  pub of : IsFor old.program old.input new
  pub steps : new.steps ≡ old.steps
  pub state : new.state ≡ old.state
  pub why : (MayNotTry t.0 old × (new.noted ≡ old.noted)) ⊎ (NotesTrap t old new.noted ⊎ NotesNoMemory t old new.noted)

-- the answer of an attempt: whether one step was taken
abbrev pub Attempts : ThreadNo → FreeRun → Bool → FreeRun → Type 0
Attempts t old true new = Steps t old new
Attempts t old false new = Stays t old new

-- ---- the end

-- no thread can take a step more
abbrev pub IsDone : FreeRun → Type 0
IsDone s = (s.noted ≢ None) ⊎ ((length s.steps ≡ RECORDING_STEP_LIMIT) ⊎ ((t : ℕ) → ready s.program s.state t ≡ false))
