use Rattle.std.proofs.Common.{◌≡◌, None}
use Rattle.pg_run.specs.Rotation.{first_true, hasnt_ended}
use Rattle.pg_run.proofs.rotation.first_going.Given as goal

abbrev pub invariant-loop-t : goal.invariant-loop-t
invariant-loop-t l = first_true (hasnt_ended l.p l.state) l.t ≡ None
