-- A step of the trace as the machine takes it.
use Rattle.std.proofs.Common.{◌≡◌, ℕ, ℤ, ◌<◌, List, length, Option, Some, sym, ap, ◌∙◌, subst}
use Rattle.std.specs.Prelude.{slice_get}
use Rattle.pg_ir.specs.declared.ids.InstrId.{InstrId}
use Rattle.pg_ir.specs.declared.instr.Instr.{Instr}
use Rattle.pg_ir.specs.Program.{NumberedProgram}
use Rattle.pg_run_trace.specs.declared.step.Step.{Step}
use Rattle.pg_law_effects.specs.pg_run.declared.machine.Stepped.{Stepped}
use Rattle.pg_law_effects.specs.pg_run.declared.machine.Stepped.TheVariants as answers
use Rattle.pg_law_effects.specs.pg_run.Bound.{stepped_as}
use Rattle.pg_law_effects.specs.pg_run.Machine.{IsMachine}
use Rattle.pg_law_effects.specs.pg_run.MachineStep as steps
use Rattle.pg_law_effects.specs.pg_run.MachineStep.{step}
use Rattle.pg_law_effects.specs.pg_run.Readers.{depth_of, frames_of}
use Rattle.pg_law_effects.specs.pg_run.Runs.{Takes}
use Rattle.pg_law_effects.specs.pg_run.State.{State}
use Rattle.pg_slice_replay.specs.Targets.{AreTargets, with_target}
use Rattle.pg_slice_replay.proofs.PresentInstructions.{present, within}
use Rattle.pg_slice_replay.proofs.TargetsKept.{targets_after}

abbrev pub state_in : steps.Stepped → State → State
state_in (steps.Did x z) s = z
state_in (steps.Trapped name id) s = s

state_is : (r : Stepped) (x : Step) (w z : State) → stepped_as r w ≡ steps.Did x z → w ≡ z
state_is (answers.Did y) x w z e = ap (λ (o : steps.Stepped). state_in o w) e
state_is (answers.Trapped name id) x w z e = absurd cc

module _ (gated : List InstrId) (p : NumberedProgram) (input : List ℤ) (s : State) (x : Step) (m : IsMachine p s) (k : Takes gated p input s x) where
  pub instr_within : x.instr.0 < length p.instrs
  instr_within = within p s x (present gated p input s x m k)

  -- what the machine answers is the step of the trace
  pub after_is : (r : Stepped) (w : State) → stepped_as r w ≡ step gated p input s x.thread.0 → w ≡ k.after
  after_is r w e = state_is r x w k.after (e ∙ k.is_step)

  pub step_is : (r : Stepped) (w : State) → stepped_as r w ≡ step gated p input s x.thread.0 → step gated p input s x.thread.0 ≡ steps.Did x w
  step_is r w e = k.is_step ∙ ap (steps.Did x) (sym (after_is r w e))

  pub targets_then : (targets new : List (Option ℕ)) (r : Stepped) (w : State) (i : Instr) (d : ℕ) → AreTargets p targets s → slice_get p.instrs x.instr.0 ≡ Some i
      → d ≡ depth_of s x.thread.0 → new ≡ with_target targets x.thread.0 d i.result → stepped_as r w ≡ step gated p input s x.thread.0 →
      AreTargets p new w
  targets_then targets new r w i d h at e n q =
      let one : new ≡ with_target targets x.thread.0 (length (frames_of s x.thread.0)) i.result = n ∙ ap (λ (b : ℕ). with_target targets x.thread.0 b i.result) e in
      subst (λ (ts : List (Option ℕ)). AreTargets p ts w) (sym one)
      (subst (AreTargets p (with_target targets x.thread.0 (length (frames_of s x.thread.0)) i.result)) (sym (after_is r w q)) (targets_after gated p input s x targets m k h i at))
