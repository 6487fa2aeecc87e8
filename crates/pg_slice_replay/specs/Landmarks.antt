-- What the trace of a reference run lacks of its steps, and a replay gives.
use Rattle.std.specs.Prelude.{ℕ, ℤ, List, [], ◌∷◌, length, Option}
use Rattle.pg_ir.specs.declared.ids.InstrId.{InstrId}
use Rattle.pg_ir.specs.Program.{NumberedProgram}
use Rattle.pg_run_memory.specs.Memory.{byte_at}
use Rattle.pg_run_trace.specs.declared.step.Step.{Step}
use Rattle.pg_law_effects.specs.pg_run.MachineStep.{step}
use Rattle.pg_law_effects.specs.pg_run.Readers.{frames_of}
use Rattle.pg_law_effects.specs.pg_run.State.{State}
use Rattle.pg_slice_rules.specs.Freeable.{FreeRegion, Regions}
use Rattle.pg_slice_rules.specs.Known.{caller_target, edge_of, function_in, region_of}
use Rattle.pg_slice_rules.specs.Moments.{Moment, instr_in, state_after}

-- of a step: how deep its thread's calls are before it, the block that its edge enters, if it takes one, the register of the
-- caller that a return sets, the function of the present call, and its region, if it is a branch that is freeable
pub record Landmark : Type 0 where
  pub depth : ℕ
  pub edge : Option ℕ
  pub target : Option ℕ
  pub function : ℕ
  pub region : Option FreeRegion

abbrev pub landmark_of : NumberedProgram → Regions → Moment → Landmark
landmark_of p regions m = record {
  depth = length m.calls;
  edge = edge_of p m m.did.did.kind;
  target = caller_target p m.calls;
  function = function_in m.calls;
  region = region_of p regions m (instr_in p m);
}

-- a step as the state before it has it; its place among the turns is left open
abbrev pub moment_in : State → Step → Moment
moment_in s x = record { did = record { did = x; low = 0; high = 0 }; calls = frames_of s x.thread.0; bytes = byte_at s.memory }

-- ---- along a run

-- what is told of each step of a run from a state on, by the state before it
unfoldable pub told_along : {A : Type 0} → (State → Step → A) → List InstrId → NumberedProgram → List ℤ → State → List Step → List A
told_along tell gated p input s [] = []
told_along tell gated p input s (x ∷ xs) = tell s x ∷ told_along tell gated p input (state_after s (step gated p input s x.thread.0)) xs

-- the landmark of a step, where this region makes it freeable
abbrev pub landmark_with : NumberedProgram → Option FreeRegion → State → Step → Landmark
landmark_with p region s x = record {
  depth = length (frames_of s x.thread.0);
  edge = edge_of p (moment_in s x) x.kind;
  target = caller_target p (frames_of s x.thread.0);
  function = function_in (frames_of s x.thread.0);
  region = region;
}
