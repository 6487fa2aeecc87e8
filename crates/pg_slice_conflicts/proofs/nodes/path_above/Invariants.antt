use Rattle.std.proofs.Common.{◌≡◌, ◌≤◌, ◌-◌}
use Rattle.pg_slice_conflicts.specs.Nodes.{path}
use Rattle.pg_slice_conflicts.specs.Ranks.{any_above}
use Rattle.pg_slice_conflicts.proofs.nodes.path_above.Given as goal

abbrev pub invariant-loop-level : goal.invariant-loop-level
invariant-loop-level l = (l.node ≤ l.leaf) × (any_above l.table l.touch (path (l.count - l.level) l.node) ≡ any_above l.table l.touch (path l.count l.leaf))
