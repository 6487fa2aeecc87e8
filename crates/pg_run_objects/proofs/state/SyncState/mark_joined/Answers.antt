use Rattle.std.proofs.Common.{length, ap, arith}
use Rattle.pg_run_objects.specs.Sync.{Sync}
use Rattle.pg_run_objects.proofs.WaiterCounts.{number_is_small}
use Rattle.pg_run_objects.proofs.state.SyncState.mark_joined.Goals as goal

pub overflow_cast-result : goal.overflow_cast-result
overflow_cast-result c = number_is_small c.self.inside.threads.items c.self.inside.waiters.items _ _ c.args.n c.self.invariant
    (omega (arith, c.requires, ap (λ (y : Sync). length y.threads) c.self.view_is))
