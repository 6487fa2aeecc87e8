-- The moves of a run on an input: its steps, as a plan is compared with them.
use Rattle.std.specs.Prelude.{◌≡◌, ℕ, suc, ℤ, List, drop, Some, None, is_some, if◌then◌else◌}
use Rattle.pg_ir.specs.declared.ids.InstrId.{InstrId}
use Rattle.pg_ir.specs.Program.{NumberedProgram}
use Rattle.pg_law_threads.specs.Effects as plans
use Rattle.pg_law_threads.specs.Effects.{Deed, IsSame}
use Rattle.pg_run_trace.specs.declared.step.Step.{Step}
use Rattle.pg_run_trace.specs.declared.turn.Turn.{Turn}
use Rattle.pg_run_trace.specs.Steps.{event_of}
use Rattle.pg_run.specs.State.{State}
use Rattle.pg_law_effects.specs.Effect.{effect_of}
use Rattle.pg_law_effects.specs.PermittedSteps.{MayTake}
use Rattle.pg_law_effects.specs.Reached.{IsReached}
use Rattle.pg_law_effects.specs.Views.{Objects, cell_at, cell_written, local_at, objects_of, objects_with, reads_cell}
use Rattle.pg_law_plan.specs.Likes.{MovedThread}

abbrev pub RunState : Type 0
RunState = plans.State MovedThread ℕ Objects

abbrev pub RunDeed : Type 0
RunDeed = Deed MovedThread ℕ Objects Step

-- a state of the machine in which each thread has done so many moves
abbrev pub moved : State → (ℕ → ℕ) → RunState
moved s moves = record {
  locals = λ t. record { local = local_at s t; moves = moves t };
  cells = cell_at s;
  objects = objects_of s;
}

-- what the step x does there
abbrev pub deed_moved : NumberedProgram → List ℤ → State → (ℕ → ℕ) → Step → RunDeed
deed_moved p input s moves x =
    let e = effect_of p input s x.thread.0 in
    record {
      thread = x.thread.0;
      to = record { local = e.local; moves = suc (moves x.thread.0) };
      told = x;
      reads = reads_cell e;
      writes = cell_written e;
      objects = if is_some (event_of x) then Some (objects_with e.thread e.request (objects_of s)) else None;
    }

-- a looks to thread t like b: the thread's own state, the cells and the objects are the same
pub record LooksTo (t : ℕ) (a b : RunState) : Type 0 where
  pub locals : (v : ℕ) → v ≡ t → a.locals v ≡ b.locals v
  pub cells : (c : ℕ) → a.cells c ≡ b.cells c
  pub objects : a.objects ≡ b.objects

-- in what looks to its thread like a, where g of the turns are done, d is what a step does that may be taken along the turns
pub record IsMove (gated : List InstrId) (p : NumberedProgram) (input : List ℤ) (turns : List Turn) (a : RunState) (g : ℕ) (d : RunDeed) : Type 0 where
  pub state : State
  pub moves : ℕ → ℕ
  pub taken : ℕ → ℕ
  pub reached : IsReached p state
  pub told : Step
  pub looks : LooksTo told.thread.0 a (moved state moves)
  pub may : MayTake gated p input state (drop g turns) taken told
  pub is_deed : IsSame d (deed_moved p input state moves told)
