-- One step more of a run.
use Rattle.std.proofs.Common.{◌≡◌, ℕ, ℤ, List, [], ◌∷◌, ◌++◌, true, refl, sym, subst}
use Rattle.pg_ir.specs.Program.{NumberedProgram}
use Rattle.pg_run_trace.specs.declared.step.Step.{Step}
use Rattle.pg_run.specs.MachineStep.{Did, ready, step}
use Rattle.pg_run.specs.Runs.{IsRun}
use Rattle.pg_run.specs.State.{State}
use Rattle.pg_run.proofs.GuidedRuns.{run_append}
use Rattle.pg_run.proofs.Runs.{step_thread}

pub run_push : (p : NumberedProgram) (input : List ℤ) (s z y : State) (t : ℕ) (xs : List Step) (x : Step) → IsRun [] p input s xs z → ready p z t ≡ true
    → step [] p input z t ≡ Did x y → IsRun [] p input s (xs ++ x ∷ []) y
run_push p input s z y t xs x run is_ready is_step =
    let by : x.thread.0 ≡ t = step_thread [] p input z y t x is_step in
    run_append [] p input s z y xs (x ∷ []) run (
      record {
        after = y;
        is_ready = subst (λ (n : ℕ). ready p z n ≡ true) (sym by) is_ready;
        is_step = subst (λ (n : ℕ). step [] p input z n ≡ Did x y) (sym by) is_step;
      },
      refl,
    )
