use Rattle.std.proofs.Common.{◌≡◌, None}
use Rattle.pg_run.specs.MachineStep.{ready}
use Rattle.pg_run.specs.Rotation.{first_true}
use Rattle.pg_run.proofs.rotation.first_ready.Given as goal

abbrev pub invariant-loop-t : goal.invariant-loop-t
invariant-loop-t l = first_true (ready l.p l.state) l.t ≡ None
