use Rattle.std.proofs.Common.{◌≡◌, ◌≤◌, ◌-◌, length}
use Rattle.pg_run.specs.State.{initial}
use Rattle.pg_run.specs.Machine.{IsMachine}
use Rattle.pg_run.specs.Rotation.{run, onto, first_share}
use Rattle.pg_run.proofs.rotation.rotate_within.Given as goal

abbrev pub invariant-loop : goal.invariant-loop
invariant-loop l = record {
  of : IsMachine l.p l.state;
  room : l.trace.room ≡ l.limit;
  few : length l.trace.steps ≤ l.counter;
  same : onto l.trace.steps (run (l.limit - l.counter) l.p l.input l.q l.state l.share) ≡ run l.limit l.p l.input l.q (initial l.p) (first_share l.q);
}
