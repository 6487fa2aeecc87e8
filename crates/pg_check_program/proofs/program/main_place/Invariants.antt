use Rattle.std.proofs.Common.{length, ◌-◌}
use Rattle.pg_check_program.proofs.MainPlace.{Searched}
use Rattle.pg_check_program.proofs.program.main_place.Given as goal

abbrev pub invariant-loop-place : goal.invariant-loop-place
invariant-loop-place l = Searched l.all l.place

abbrev pub decreases-loop-place : goal.decreases-loop-place
decreases-loop-place l = length l.all - l.place
