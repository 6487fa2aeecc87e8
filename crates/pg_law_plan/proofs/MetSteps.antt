-- A step that was met, at an instruction at which its thread stands alike in another state.
use Rattle.std.specs.Prelude.{slice_get}
use Rattle.std.proofs.Common.{◌∙◌, ◌∷◌, ◌≡◌, List, Some, ap, length, subst, ℤ}
use Rattle.pg_ir.specs.declared.instr.Op.{Op}
use Rattle.pg_run_thread.specs.LocalState.{own_memory}
use Rattle.pg_run_thread.specs.States.{CanStep}
use Rattle.pg_run_thread.specs.Step.{op_action, total}
use Rattle.pg_run_thread.specs.declared.action.Action.{Action}
use Rattle.pg_run_trace.specs.declared.step.Step.{Step}
use Rattle.pg_run.specs.MachineStep.{step_told}
use Rattle.pg_run.specs.State.{State, instr_of, next_of}
use Rattle.pg_slice_rules.specs.Known.{Seen, Taken, thread_of, top_of}
use Rattle.pg_slice_rules.specs.Moments.{instr_in, thread_in}
use Rattle.pg_slice_rules.specs.Rules.{registers_before}
use Rattle.pg_law_effects.specs.Effect.{answer_to}
use Rattle.pg_law_plan.specs.Units.{ReferenceRun}
use Rattle.pg_law_plan.proofs.EachUnit.{IsMet}
use Rattle.pg_law_plan.proofs.ThreadAtInstruction.{can_step, instr_here, next_here, running, told_is}
use Rattle.pg_law_plan.proofs.AlikeThreads.{Both}

-- what is told of it
pub told_met : (r : ReferenceRun) (d : Taken) (x : Seen) (s : State) → IsMet r d x s →
    x.moment.did.did ≡ step_told r.gated r.program s (thread_in x.moment) (answer_to r.input s (thread_in x.moment) (next_of r.program s (thread_in x.moment)))
told_met r d x s met = told_is r.gated r.program r.input s met.takes.after (thread_in x.moment) x.moment.did.did met.takes.is_step

module _ (r : ReferenceRun) (d : Taken) (input : List ℤ) (x : Seen) (s st : State) (met : IsMet r d x s)
    (b : Both r.program input (thread_in x.moment) s st (thread_of x.before (thread_in x.moment)).calls) where
  pub place0 : slice_get r.program.instrs (instr_of s (thread_in x.moment)) ≡ Some b.x
  place0 = ap (slice_get r.program.instrs) (instr_here r.program s (thread_in x.moment) b.h b.f0 b.fs0 b.n b.x b.here0) ∙ b.here0.instr

  pub instr_is : instr_in r.program x.moment ≡ Some b.x
  instr_is = ap (λ (z : Step). slice_get r.program.instrs z.instr.0) (told_met r d x s met) ∙ place0

  pub top_known : registers_before x ≡ b.ks
  top_known = ap top_of b.calls

  -- what the thread is to do there, in both states
  abbrev pub Act0 : Op → Action
  Act0 o = op_action r.program (own_memory (running (thread_in x.moment) b.h b.f0 b.fs0 b.n)) b.h b.f0.registers (length (b.f0 ∷ b.fs0)) (total (b.f0 ∷ b.fs0)) b.x.block.0 o

  abbrev pub Act : Op → Action
  Act o = op_action r.program (own_memory (running (thread_in x.moment) b.h b.f b.fs b.n)) b.h b.f.registers (length (b.f ∷ b.fs)) (total (b.f ∷ b.fs)) b.x.block.0 o

  pub act0_at : (o : Op) → b.x.op ≡ o → next_of r.program s (thread_in x.moment) ≡ Act0 o
  act0_at o e = next_here r.program s (thread_in x.moment) b.h b.f0 b.fs0 b.n b.x b.here0 ∙ ap Act0 e

  pub act_at : (o : Op) → b.x.op ≡ o → next_of r.program st (thread_in x.moment) ≡ Act o
  act_at o e = next_here r.program st (thread_in x.moment) b.h b.f b.fs b.n b.x b.here ∙ ap Act e

  pub can0_at : (o : Op) → b.x.op ≡ o → CanStep (Act0 o)
  can0_at o e = subst CanStep (act0_at o e) (can_step r.gated r.program r.input s x.moment.did.did met.takes)
