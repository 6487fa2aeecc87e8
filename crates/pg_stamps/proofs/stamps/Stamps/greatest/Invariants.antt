use Rattle.std.proofs.Common.{◌≡◌, ◌/◌, ◌^◌}
use Rattle.pg_stamps.specs.Marks.{greatest_below, mark_of, node_at}
use Rattle.pg_stamps.proofs.stamps.Stamps.greatest.Given as goal

abbrev pub invariant-loop-level : goal.invariant-loop-level
invariant-loop-level l = record {
  node : l.node ≡ node_at l.place l._level;
  levels : l.levels ≡ l.initial.levels / 2 ^ l._level;
  number : l.number ≡ greatest_below (mark_of l.self) l.place l._level;
}
