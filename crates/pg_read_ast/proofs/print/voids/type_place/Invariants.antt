use Rattle.std.proofs.Common.{length, ◌-◌}
use Rattle.pg_read_ast.proofs.Voids.{Searched}
use Rattle.pg_read_ast.proofs.print.voids.type_place.Given as goal

abbrev pub invariant-loop-place : goal.invariant-loop-place
invariant-loop-place l = Searched l.types l.name l.place

abbrev pub decreases-loop-place : goal.decreases-loop-place
decreases-loop-place l = length l.types - l.place
