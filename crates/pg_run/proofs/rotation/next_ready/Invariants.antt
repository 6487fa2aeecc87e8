use Rattle.std.proofs.Common.{◌≡◌, None}
use Rattle.pg_run.specs.MachineStep.{ready}
use Rattle.pg_run.specs.Rotation.{first_true, around}
use Rattle.pg_run.proofs.rotation.next_ready.Given as goal

abbrev pub invariant-loop-d : goal.invariant-loop-d
invariant-loop-d l = first_true (λ d. ready l.p l.state (around l.state l.t.0 d)) l.d ≡ None
