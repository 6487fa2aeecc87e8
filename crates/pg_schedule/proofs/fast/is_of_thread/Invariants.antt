use Rattle.std.proofs.Common.{◌≡◌, ◌==◌, take, true}
use Rattle.std.specs.List.{list_all}
use Rattle.pg_run_trace.specs.declared.step.Step.{Step}
use Rattle.pg_schedule.proofs.fast.is_of_thread.Given as goal

abbrev pub invariant-loop-i : goal.invariant-loop-i
invariant-loop-i l = list_all (λ (x : Step). x.thread.0 == l.fn.thread.0) (take l.i l.t.steps) ≡ true
