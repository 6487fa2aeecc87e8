use Rattle.std.proofs.Common.{take}
use Rattle.pg_slice_conflicts.specs.Merged.{IsMerged}
use Rattle.pg_slice_conflicts.proofs.merged.merge_by.Given as goal

abbrev pub invariant-loop-i : goal.invariant-loop-i
invariant-loop-i l = IsMerged (take l.i l.footprints) l.kept.items l.numbers.items
