use Rattle.std.proofs.Common.{◌≡◌, length}
use Rattle.pg_region_summaries.specs.Reaches.{AreReaches}
use Rattle.pg_region_summaries.proofs.reaches.reaches.Given as goal

abbrev pub invariant-loop-f : goal.invariant-loop-f
invariant-loop-f l = record {
  size : length l.reaches.items ≡ l.f;
  reaches : AreReaches l.calls l.f l.reaches.items;
}
