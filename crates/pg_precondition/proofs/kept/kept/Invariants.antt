use Rattle.std.proofs.Common.{◌≡◌, take}
use Rattle.std.specs.Prelude.{slice_index}
use Rattle.pg_precondition.specs.Kept.{kept}
use Rattle.pg_precondition.proofs.kept.kept.Given as goal

abbrev pub invariant-loop-i : goal.invariant-loop-i
invariant-loop-i l = l.kept ≡ kept (slice_index l.places) (take l.i l.marks) (take l.i l.nodes)
