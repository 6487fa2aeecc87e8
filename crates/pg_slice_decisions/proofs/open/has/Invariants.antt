use Rattle.std.proofs.Common.{◌≡◌, drop}
use Rattle.pg_slice_decisions.specs.Places.{has}
use Rattle.pg_slice_decisions.proofs.open.has.Given as goal

abbrev pub invariant-loop-place : goal.invariant-loop-place
invariant-loop-place l = has l.ends l.depth l.join ≡ has (drop l.place-index l.ends) l.depth l.join
