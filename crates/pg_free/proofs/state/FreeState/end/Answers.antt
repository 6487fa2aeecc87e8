use Rattle.std.proofs.Common.{◌∙◌, sym, subst, refl, inr}
use Rattle.pg_num.specs.declared.limits.TheConstants.{RECORDING_STEP_LIMIT}
use Rattle.pg_run.specs.Recordings.{EndsBy}
use Rattle.pg_run.specs.Rotation.{deadlock_of}
use Rattle.pg_run.specs.declared.outcome.Outcome.{Outcome}
use Rattle.pg_free.specs.States.{FreeRun}
use Rattle.pg_free.proofs.state.FreeState.end.Goals as goal

pub returns-in-None-first_ready-clause-end : goal.returns-in-None-first_ready-clause-end
unfolding deadlock_of
returns-in-None-first_ready-clause-end c =
    let p = c.self.inside.program.now in
    let m = c.self.inside.machine in
    subst (λ (s : FreeRun). EndsBy RECORDING_STEP_LIMIT s.program s.input s.steps s.state c.deadlock.result) c.self.view_is
    (subst (λ (e : Outcome). EndsBy RECORDING_STEP_LIMIT p m.input c.self.inside.trace.steps m.state e) (sym c.deadlock.ensures.end)
    (inr (record { going = sym c.is_over.ensures.over ∙ c.if-is_over.false; none_ready = c.in-None-first_ready.ensures.none; is_trap = refl })))
