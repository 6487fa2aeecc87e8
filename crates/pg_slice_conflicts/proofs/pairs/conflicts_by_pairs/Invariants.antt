use Rattle.std.proofs.Common.{◌≡◌, map, take}
use Rattle.pg_slice_conflicts.specs.Meets.{is_met}
use Rattle.pg_slice_conflicts.proofs.pairs.conflicts_by_pairs.Given as goal

abbrev pub invariant-loop-i : goal.invariant-loop-i
invariant-loop-i l = l.met.items ≡ map (is_met l.footprints) (take l.i l.footprints)
