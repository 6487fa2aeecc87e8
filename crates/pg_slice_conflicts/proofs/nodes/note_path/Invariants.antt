use Rattle.std.proofs.Common.{◌≤◌, ◌-◌, List}
use Rattle.pg_run_trace.specs.declared.best.Best.{Best}
use Rattle.pg_slice_conflicts.specs.Nodes.{path}
use Rattle.pg_slice_conflicts.specs.Ranks.{AreBest, Noted}
use Rattle.pg_slice_conflicts.proofs.nodes.note_path.Given as goal

abbrev pub invariant-loop-level : goal.invariant-loop-level
invariant-loop-level l =
    (l.node ≤ l.leaf) × AreBest l.table × ((new' : List Best) → Noted l.table new' (path (l.count - l.level) l.node) l.touch → Noted l.initial.table new' (path l.count l.leaf) l.touch)
