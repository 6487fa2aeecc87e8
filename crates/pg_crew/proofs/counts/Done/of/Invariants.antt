use Rattle.std.proofs.Common.{◌≡◌, ℕ, ◌<◌, length}
use Rattle.std.specs.Prelude.{slice_get, slice_index}
use Rattle.pg_worker.specs.pg_num.declared.limits.TheConstants.{THREAD_LIMIT}
use Rattle.pg_crew.specs.Workers.{done_by}
use Rattle.pg_crew.proofs.counts.Done.of.Given as goal

abbrev pub invariant-loop-t : goal.invariant-loop-t
invariant-loop-t l = record {
  room : length l.turns ≡ THREAD_LIMIT;
  done : (k : ℕ) → k < l.t → slice_index l.turns k ≡ done_by (slice_get l.workers k);
}
