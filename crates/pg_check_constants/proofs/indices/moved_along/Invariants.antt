use Rattle.std.proofs.Common.{◌≡◌, ◌+ℤ◌, pos, drop}
use Rattle.pg_num.specs.Pointers.{offset_of}
use Rattle.pg_check_constants.specs.Indices.{moves_of}
use Rattle.pg_check_constants.proofs.indices.moved_along.Given as goal

abbrev pub invariant-loop-place : goal.invariant-loop-place
invariant-loop-place l = offset_of (pos l.offset +ℤ moves_of (drop l.place l.scales) (drop l.place l.indices)) ≡ offset_of (pos 0 +ℤ moves_of l.scales l.indices)
