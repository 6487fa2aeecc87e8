use Rattle.std.proofs.Common.{◌≡◌, ◌++◌, drop}
use Rattle.pg_slice_decisions.specs.Steps.{taken_by}
use Rattle.pg_slice_passes.specs.Rows.{asks_of_one}
use Rattle.pg_slice_passes.proofs.footprints.ask_row.Given as goal

abbrev pub invariant-loop-i : goal.invariant-loop-i
invariant-loop-i l =
    l.missing.items ++ asks_of_one (taken_by l.d) l.owner (drop l.i l.footprints) (drop l.i l.marks)
    ≡ l.fn.missing.items ++ asks_of_one (taken_by l.d) l.owner l.footprints l.marks
