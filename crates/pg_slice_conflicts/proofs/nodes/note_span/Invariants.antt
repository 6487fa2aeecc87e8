use Rattle.std.proofs.Common.{◌≤◌, ◌-◌, List}
use Rattle.pg_run_trace.specs.declared.best.Best.{Best}
use Rattle.pg_slice_conflicts.specs.Nodes.{span}
use Rattle.pg_slice_conflicts.specs.Ranks.{AreBest, Noted}
use Rattle.pg_slice_conflicts.proofs.nodes.note_span.Given as goal

abbrev pub invariant-loop-level : goal.invariant-loop-level
invariant-loop-level l =
    (l.high ≤ l.end) × AreBest l.table × ((new' : List Best) → Noted l.table new' (span (l.count - l.level) l.low l.high) l.touch
    → Noted l.initial.table new' (span l.count l.first l.end) l.touch)
