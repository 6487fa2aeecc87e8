-- A permitted run at a cut of a full run along the same turns.
use Rattle.std.specs.Prelude.{◌≡◌, ℕ, ◌==◌, ◌<◌, ◌^◌, ℤ, List, [], ◌∷◌, ◌++◌, length, map, Option}
use Rattle.std.specs.List.{filter}
use Rattle.pg_ir.specs.declared.ids.InstrId.{InstrId}
use Rattle.pg_ir.specs.Program.{NumberedProgram}
use Rattle.pg_ir.specs.WellFormed.{IsProgram}
use Rattle.pg_law_threads.specs.Cuts.{IsBelow, IsCut, Mark, kept, whole}
use Rattle.pg_law_threads.specs.Intervals.{IsOrdered, Timed, did_of, times}
use Rattle.pg_run_thread.specs.LocalState.{LocalState}
use Rattle.pg_run_trace.specs.declared.step.Step.{Step}
use Rattle.pg_run_trace.specs.declared.turn.Turn.{Turn}
use Rattle.pg_run_trace.specs.Races.{recorded}
use Rattle.pg_run.specs.State.{State, initial}
use Rattle.pg_run.specs.Permitted.{IsFull, IsPermitted, full_end}
use Rattle.pg_run.specs.Runs.{events}
use Rattle.pg_law_effects.specs.Effect.{Effect}
use Rattle.pg_law_effects.specs.Reached.{HoldBytes}
use Rattle.pg_law_effects.specs.StatesAlong.{effects_of, threads_of}
use Rattle.pg_law_runs.specs.Deeds.{owners_of}

-- a program whose globals hold bytes, and an input whose length has 64 bits
pub record CanRun (p : NumberedProgram) (input : List ℤ) : Type 0 where
  pub program : IsProgram p
  pub bytes : HoldBytes p.globals
  pub small : length input < 2 ^ 64

-- steps along turns are ordered: of each two that conflict the next turn of the one's thread, performed or not, stands
-- before the last turn of the other's
abbrev pub IsOrderedAlong : List Turn → List Step → Type 0
IsOrderedAlong turns xs = IsOrdered recorded (owners_of turns) xs

-- these steps are an ordered full run along the turns, and lead to w
pub record IsOrderedFull (p : NumberedProgram) (input : List ℤ) (turns : List Turn) (gated : List InstrId) (full : List Step) (w : State) : Type 0 where
  pub permitted : IsPermitted p input turns gated full w
  pub is_full : IsFull gated p turns full w
  pub ordered : IsOrderedAlong turns full

-- ---- what one thread does in a run

abbrev pub steps_by : ℕ → List Step → List Step
steps_by t xs = filter (λ (x : Step). t == x.thread.0) xs

-- its local state after each of its steps
abbrev pub locals_by : NumberedProgram → List ℤ → State → ℕ → List Step → List (Option LocalState)
locals_by p input s t xs = map (λ (e : Effect). e.local) (filter (λ (e : Effect). t == e.thread) (effects_of p input s (threads_of xs)))

-- ys begins with xs
abbrev pub IsFrontOf : {A : Type 0} → List A → List A → Type 0
IsFrontOf {A} xs ys = (rest : List A) × (xs ++ rest ≡ ys)

-- ---- cuts

-- the run xs to z stands at a cut of the full run
pub record IsAtCut (p : NumberedProgram) (input : List ℤ) (turns : List Turn) (gated : List InstrId) (full xs : List Step) (z : State) : Type 0 where
  -- which steps of the full run are done: of each thread the first ones, and the turns below the number of the run's
  -- events
  pub marks : List (Mark (Timed Step))
  pub is_whole : whole marks ≡ times recorded (owners_of turns) 0 full
  pub is_cut : IsCut recorded marks
  pub below : IsBelow (length (events xs)) marks
  -- each thread has done its steps that are done there, and these are its first ones, with the same local states
  pub steps : (t : ℕ) → steps_by t xs ≡ steps_by t (did_of (kept marks))
  pub front : (t : ℕ) → IsFrontOf (steps_by t xs) (steps_by t full)
  pub locals : (t : ℕ) → IsFrontOf (locals_by p input (initial p) t xs) (locals_by p input (initial p) t full)
  -- the steps that are done, in the full run's order, are a permitted run that leaves the same state. So each byte is
  -- that of the last of their writes in that order
  pub state : IsPermitted p input turns gated (did_of (kept marks)) z

-- the run can be prolonged by a step of thread t
pub record CanStep (p : NumberedProgram) (input : List ℤ) (turns : List Turn) (gated : List InstrId) (xs : List Step) (t : ℕ) : Type 0 where
  pub step : Step
  pub after : State
  pub own : step.thread.0 ≡ t
  pub permitted : IsPermitted p input turns gated (xs ++ step ∷ []) after

-- the run xs to z ends as the run full to w: with the same state, events and end, and in each thread the same steps,
-- with the same local states after them
pub record EndsAs (p : NumberedProgram) (input : List ℤ) (turns : List Turn) (full : List Step) (w : State) (xs : List Step) (z : State) : Type 0 where
  pub state : z ≡ w
  pub events : events xs ≡ events full
  pub steps : (t : ℕ) → steps_by t xs ≡ steps_by t full
  pub locals : (t : ℕ) → locals_by p input (initial p) t xs ≡ locals_by p input (initial p) t full
  pub number : length xs ≡ length full
  pub end : full_end p turns xs z ≡ full_end p turns full w

-- the run xs to z, which the owner of the next turn holds, has come as far as others see as the run full to w: it did the same
-- turns, printed the same, main has the same value, and it ends alike
pub record HasEndedAs (p : NumberedProgram) (turns : List Turn) (full : List Step) (w : State) (xs : List Step) (z : State) : Type 0 where
  pub events : events xs ≡ events full
  pub printed : z.printed ≡ w.printed
  pub value : z.value ≡ w.value
  pub end : full_end p turns xs z ≡ full_end p turns full w
