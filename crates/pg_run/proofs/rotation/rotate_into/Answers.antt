use Rattle.std.proofs.Common.{[], ap, subst, List}
use Rattle.pg_run_trace.specs.declared.step.Step.{Step}
use Rattle.pg_run.specs.State.{initial}
use Rattle.pg_run.specs.Rotation.{RunResult, rotation_of}
use Rattle.pg_run.specs.Runs.{IsRun}
use Rattle.pg_run.proofs.Runs.{rotation_runs}
use Rattle.pg_run.proofs.rotation.rotate_into.Goals as goal

pub returns-clause-run : goal.returns-clause-run
unfolding rotation_of
returns-clause-run c = subst (λ (xs : List Step). IsRun [] c.args.p.now c.args.input.now (initial c.args.p.now) xs (rotation_of c.args.p.now c.args.input.now c.args.q).state)
    (ap (λ (r : RunResult). r.trace) c.in_ok-state.ensures.run) (rotation_runs c.args.p.now c.args.input.now c.args.q)
