use Rattle.std.proofs.Common.{◌≡◌, ◌<◌, ◌≤◌, ℕ, length}
use Rattle.std.specs.Prelude.{slice_index_or}
use Rattle.pg_num.specs.declared.limits.TheConstants.{THREAD_LIMIT}
use Rattle.pg_ir.specs.declared.ids.ThreadNo.{ThreadNo}
use Rattle.pg_free.proofs.shared.workers.Given as goal

abbrev pub invariant-loop-t : goal.invariant-loop-t
invariant-loop-t l = record {
  count : length l.workers.items ≡ l.t;
  small : l.t ≤ THREAD_LIMIT;
  each : (i : ℕ) (d : ThreadNo) → i < l.t → slice_index_or l.workers.items i d ≡ record { 0 = i };
}
