use Rattle.std.proofs.Common.{◌≡◌, map, take}
use Rattle.std.specs.Prelude.{slice_index}
use Rattle.pg_precondition.specs.Kept.{renamed_check}
use Rattle.pg_precondition.proofs.pruned.with_checks.Given as goal

abbrev pub invariant-loop-i : goal.invariant-loop-i
invariant-loop-i l = (l.c.nodes ≡ l.fn.nodes) × (l.c.checks ≡ map (renamed_check (slice_index l.places)) (take l.i l.checks))
