use Rattle.std.proofs.Common.{◌≤◌, ◌-◌, length, take, IfSome}
use Rattle.std.specs.Prelude.{slice_get}
use Rattle.pg_run_objects.specs.Places.{AllBelow}
use Rattle.pg_run_objects.proofs.table.position.Given as goal

abbrev pub invariant-loop-low : goal.invariant-loop-low
invariant-loop-low l = record {
  order : l.low ≤ l.high;
  bound : l.high ≤ length l.entries;
  below : AllBelow l.place (take l.low l.entries);
  stops : IfSome (slice_get l.entries l.high) (λ e. l.place ≤ e.place);
}

abbrev pub decreases-loop-low : goal.decreases-loop-low
decreases-loop-low l = l.high - l.low
