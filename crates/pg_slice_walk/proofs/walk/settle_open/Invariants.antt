use Rattle.std.proofs.Common.{◌≡◌, ◌≤◌, ℕ, suc, Some, length}
use Rattle.std.specs.Prelude.{slice_get, slice_index_or}
use Rattle.pg_slice_rules.specs.Known.{Reference, Taken}
use Rattle.pg_slice_rules.specs.Moments.{Moment, thread_in}
use Rattle.pg_slice_back.specs.pg_slice_decisions.Steps.{AreOf, left_by, taken_by}
use Rattle.pg_slice_back.specs.pg_slice_replay.Kept.{step_count}
use Rattle.pg_slice_walk.specs.Settled.{ArePinned, AreSettled, Leads}
use Rattle.pg_slice_walk.specs.Walks.{IsTold, Walks}
use Rattle.pg_slice_walk.proofs.walk.settle_open.Given as goal

abbrev pub invariant-loop-b : goal.invariant-loop-b
invariant-loop-b l = record {
  left_open : (rest : ℕ) × Leads l.walk.holders.now (slice_index_or l.walk.holders.now l.number 0) l.open.items rest × ArePinned l.walk.holders.now (taken_by l.decisions) rest;
  settled : AreSettled l.walk.holders.now (taken_by l.decisions) l.settled.items;
  size : AreOf (step_count l.walk.reference.now) l.decisions;
  left : left_by l.decisions ≤ left_by l.fn.decisions;
  behind : (R : Reference) (e : Taken) (m : Moment) → IsTold R l.walk.reference.now l.walk.holders.now l.walk.counts.now → slice_get R.moments l.number ≡ Some m → thread_in m ≡ l.thread.0
      → Walks R e (suc l.number) l.fn.demanded (taken_by l.fn.decisions) → Walks R e (suc l.number) l.demanded (taken_by l.decisions);
}

abbrev pub decreases-loop-b : goal.decreases-loop-b
decreases-loop-b l = length l.open.items
