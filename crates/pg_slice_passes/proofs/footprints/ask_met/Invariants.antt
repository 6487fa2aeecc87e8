use Rattle.std.proofs.Common.{◌≡◌, ◌++◌, drop}
use Rattle.pg_slice_decisions.specs.Steps.{taken_by}
use Rattle.pg_slice_passes.specs.Rows.{asks_of_rows}
use Rattle.pg_slice_passes.proofs.footprints.ask_met.Given as goal

abbrev pub invariant-loop-i : goal.invariant-loop-i
invariant-loop-i l =
    l.missing.items ++ asks_of_rows (taken_by l.d) l.kept l.marks (drop l.i l.rows)
    ≡ l.fn.missing.items ++ asks_of_rows (taken_by l.d) l.kept l.marks l.rows
