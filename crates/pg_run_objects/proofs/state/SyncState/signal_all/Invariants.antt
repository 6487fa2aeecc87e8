use Rattle.std.proofs.Common.{◌≡◌, length}
use Rattle.pg_run_objects.specs.Sync.{broadcast}
use Rattle.pg_run_objects.proofs.state.SyncState.signal_all.Given as goal

abbrev pub invariant-loop : goal.invariant-loop
invariant-loop l = broadcast l.self l.condition ≡ broadcast l.initial.self l.condition

abbrev pub decreases-loop : goal.decreases-loop
decreases-loop l = length l.self.waiters
