use Rattle.std.proofs.Common.{◌≡◌, ◌≤◌, ◌-◌}
use Rattle.pg_slice_conflicts.specs.Nodes.{span}
use Rattle.pg_slice_conflicts.specs.Ranks.{any_above}
use Rattle.pg_slice_conflicts.proofs.nodes.span_above.Given as goal

abbrev pub invariant-loop-level : goal.invariant-loop-level
invariant-loop-level l = (l.high ≤ l.end) × (any_above l.table l.touch (span (l.count - l.level) l.low l.high) ≡ any_above l.table l.touch (span l.count l.first l.end))
