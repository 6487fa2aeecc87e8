use Rattle.std.proofs.Common.{◌≡◌, take, false}
use Rattle.std.specs.List.{list_any}
use Rattle.pg_slice_conflicts.specs.Meets.{meets}
use Rattle.pg_slice_conflicts.proofs.pairs.is_met.Given as goal

abbrev pub invariant-loop-j : goal.invariant-loop-j
invariant-loop-j l = list_any (meets l.x) (take l.j l.footprints) ≡ false
