-- A step that only its thread's own state decides and sees, as a step of the machine.
use Rattle.std.specs.Prelude.{◌≡◌, ℕ, ℤ, List, [], ◌∷◌, Bool, true, Option, Some, None, slice_set}
use Rattle.pg_run_trace.specs.pg_ir.declared.ids.InstrId.{InstrId}
use Rattle.pg_run_trace.specs.pg_ir.Program.{NumberedProgram}
use Rattle.pg_run_thread.specs.declared.action.Action.{Action}
use Rattle.pg_run_thread.specs.declared.action.Action.TheVariants as actions
use Rattle.pg_run_thread.specs.declared.advance.Advance.{Advance}
use Rattle.pg_run_thread.specs.declared.advance.Advance.TheVariants.{Done, Asks}
use Rattle.pg_run_thread.specs.declared.advance.LocalStep.{LocalStep}
use Rattle.pg_run_thread.specs.declared.advance.LocalStep.TheVariants as locals
use Rattle.pg_run_thread.specs.LocalState.{LocalState}
use Rattle.pg_run_thread.specs.Advance.{advanced}
use Rattle.pg_run_trace.specs.declared.step.StepKind.{StepKind}
use Rattle.pg_run_trace.specs.declared.step.StepKind.TheVariants as told
use Rattle.pg_run_trace.specs.Recording.{Recording}
use Rattle.pg_run.specs.WithSteps.{with_steps}
use Rattle.pg_run.specs.State.{State, instr_of, next_of}
use Rattle.pg_run.specs.MachineStep.{Did, ready, step}

-- what the trace tells of it
abbrev pub kind_of : LocalStep → StepKind
kind_of locals.Other = told.Other
kind_of (locals.Branch n) = told.Branch n
kind_of (locals.Allocation operand result) = told.Allocation operand result

-- ---- one thread among those that were made

abbrev pub advance_in : NumberedProgram → Option LocalState → Advance
advance_in p None = Asks actions.Ended
advance_in p (Some l) = (advanced p l).1

abbrev pub locals_advanced : NumberedProgram → List LocalState → ℕ → Option LocalState → List LocalState
locals_advanced p ls t None = ls
locals_advanced p ls t (Some l) = slice_set ls t (advanced p l).0

-- ---- the machine's step

-- it was done, and this was told of it
pub record Went (p : NumberedProgram) (s z : State) (t : ℕ) (x : LocalStep) : Type 0 where
  pub next_is : next_of p s t ≡ actions.Local
  pub ready_is : ready p s t ≡ true
  pub step_is : (gated : List InstrId) (input : List ℤ) → step gated p input s t ≡ Did (record { thread = record { 0 = t }; instr = record { 0 = instr_of s t }; kind = kind_of x }) z

-- or the step asks this, and nothing is done
abbrev pub GoesOn : NumberedProgram → State → State → ℕ → Advance → Type 0
GoesOn p s z t (Done x) = Went p s z t x
GoesOn p s z t (Asks a) = (a ≡ next_of p s t) × (z ≡ s)

-- the same where the step goes into a recording, or nowhere
abbrev pub WentRecorded : NumberedProgram → State → State → ℕ → Bool → Recording → Recording → Option Action → Type 0
WentRecorded p s z t records q r (Some a) = (a ≡ next_of p s t) × (z ≡ s) × (r ≡ q)
WentRecorded p s z t records q r None = (x : LocalStep) × Went p s z t x
    × (r ≡ with_steps records q (record { thread = record { 0 = t }; instr = record { 0 = instr_of s t }; kind = kind_of x } ∷ []))
