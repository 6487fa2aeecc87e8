use Rattle.pg_run_thread.specs.States.{IsOf}
use Rattle.pg_test_run.proofs.parts.tests.steps.run.Given as goal

abbrev pub invariant-loop : goal.invariant-loop
invariant-loop l = IsOf l.p l.fiber
