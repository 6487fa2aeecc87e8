-- A reference run by its parts, as a pass reads them.
use Rattle.std.specs.Prelude.{◌≡◌, ℕ, ◌<◌, ◌≤◌, ◌⊎◌, ℤ, List, length, Bool, true, false, IsTrue, Option, None, IfSome, option_map, slice_get, slice_index}
use Rattle.pg_ir.specs.declared.ids.InstrId.{InstrId}
use Rattle.pg_ir.specs.declared.instr.Instr.{Instr}
use Rattle.pg_ir.specs.declared.instr.Op.{Op}
use Rattle.pg_ir.specs.declared.instr.Op.TheVariants as op
use Rattle.pg_ir.specs.Program.{NumberedProgram}
use Rattle.pg_run_trace.specs.declared.step.Access.{Access}
use Rattle.pg_run_trace.specs.declared.step.Event.{Event}
use Rattle.pg_run_trace.specs.declared.step.Step.{Step}
use Rattle.pg_run_trace.specs.declared.step.StepKind.{StepKind}
use Rattle.pg_run_trace.specs.declared.step.StepKind.TheVariants as kinds
use Rattle.pg_run_trace.specs.declared.turn.TurnKind.TheVariants as turns
use Rattle.pg_schedule.specs.declared.interval.Interval.{Interval}
use Rattle.pg_schedule.specs.declared.interval.Turns.TheVariants.{Recorded}
use Rattle.pg_schedule.specs.Intervals.{intervals_of}
use Rattle.pg_slice_rules.specs.Freeable.{Regions}
use Rattle.pg_slice_rules.specs.Known.{Reference}
use Rattle.pg_slice_rules.specs.Moments.{moments_of}
use Rattle.pg_slice_replay.specs.declared.run.ReferenceRun.{ReferenceRun}
use Rattle.pg_slice_replay.specs.Kept.{landmark_at, step_count}
use Rattle.pg_slice_replay.specs.Landmarks.{Landmark, landmark_of}
use Rattle.pg_slice_values.specs.Forms.{CastFits}
use Rattle.pg_slice_registers.specs.Steps.{is_plain}

-- ---- the run

-- a run of a program with these regions
abbrev pub reference_of : NumberedProgram → Regions → List InstrId → List ℤ → List Step → Reference
reference_of p regions gated input steps = record { program = p; regions = regions; moments = moments_of gated p input steps }

-- a replay has the landmarks of the run
abbrev pub HasLandmarks : Reference → ReferenceRun → Type 0
HasLandmarks R r = (n : ℕ) → landmark_at r n ≡ option_map (landmark_of R.program R.regions) (slice_get R.moments n)

-- each edge that a replay has leads to a block of the program
abbrev pub EdgesStand : NumberedProgram → ReferenceRun → Type 0
EdgesStand p r = (n : ℕ) → IfSome (landmark_at r n) (λ (l : Landmark). IfSome l.edge (λ b. b < length p.blocks))

-- ---- a step is one of its instruction

abbrev pub IsAccess : Op → Type 0
IsAccess (op.Load w from) = Unit {0}
IsAccess (op.Store w v at) = Unit {0}
IsAccess o = ⊥

-- neither an access nor an event
abbrev pub is_op : StepKind → Bool
is_op (kinds.Access a) = false
is_op (kinds.Event e) = false
is_op kind = true

-- a start may stand at any instruction and an exit at a return; all other events are calls
abbrev pub FitsEvent : Event → Op → Type 0
FitsEvent e (op.CallLibrary k args) = Unit {0}
FitsEvent e (op.Ret v) = ((e.kind ≡ turns.Start) ⊎ (e.kind ≡ turns.Exit)) × (e.write ≡ None)
FitsEvent e o = (e.kind ≡ turns.Start) × (e.write ≡ None)

abbrev pub FitsBranch : Op → Type 0
FitsBranch (op.CondBr c a b) = Unit {0}
FitsBranch (op.Switch w on other cases) = Unit {0}
FitsBranch o = ⊥

abbrev pub FitsKind : Op → StepKind → Type 0
FitsKind o (kinds.Access a) = IsAccess o × (1 ≤ a.bytes) × (a.bytes ≤ 8)
FitsKind o (kinds.Event e) = FitsEvent e o
FitsKind o (kinds.Branch c) = FitsBranch o
FitsKind o kind = IsTrue (is_plain o)

-- a create names a function of the program
abbrev pub FitsCreate : NumberedProgram → StepKind → Type 0
FitsCreate p (kinds.Event e) = e.kind ≡ turns.Create → slice_index e.operands 2 < length p.functions
FitsCreate p kind = Unit {0}

pub record FitsStep (p : NumberedProgram) (x : Step) : Type 0 where
  pub instr : x.instr.0 < length p.instrs
  pub kind : IfSome (slice_get p.instrs x.instr.0) (λ (i : Instr). FitsKind i.op x.kind)
  pub create : FitsCreate p x.kind

-- each step of a list is one of its instruction
abbrev pub AreSteps : NumberedProgram → List Step → Type 0
AreSteps p xs = (n : ℕ) → IfSome (slice_get xs n) (FitsStep p)

-- a step can be gone along: it is one of its instruction, the run has its number, and its edge leads to a block
pub record CanGo (p : NumberedProgram) (x : Instr) (step : Step) (r : ReferenceRun) (n : ℕ) : Type 0 where
  pub fits : FitsKind x.op step.kind
  pub create : FitsCreate p step.kind
  pub cast : CastFits x.op
  pub number : n < step_count r
  pub block : IfSome (landmark_at r n) (λ (l : Landmark). IfSome l.edge (λ b. b < length p.blocks))

-- a run of a program, the intervals of its steps and its replay belong together
pub record AreGiven (p : NumberedProgram) (xs : List Step) (vs : List Interval) (r : ReferenceRun) : Type 0 where
  pub edges : EdgesStand p r
  pub steps : AreSteps p xs
  pub count : step_count r ≡ length xs
  pub intervals : vs ≡ intervals_of Recorded xs
  pub few : length xs < 4294967296
