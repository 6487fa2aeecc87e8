use Rattle.std.proofs.Common.{◌≡◌, ◌++◌, drop, map, take}
use Rattle.std.specs.Prelude.{slice_index}
use Rattle.pg_precondition.proofs.kept.renamed_parts.Given as goal

abbrev pub invariant-loop-i : goal.invariant-loop-i
invariant-loop-i l = l.renamed ≡ map (slice_index l.places) (take l.i l.parts) ++ drop l.i l.parts
