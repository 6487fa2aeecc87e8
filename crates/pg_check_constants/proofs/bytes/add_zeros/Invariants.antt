use Rattle.std.proofs.Common.{◌≡◌, ◌-◌, ◌++◌, replicate}
use Rattle.pg_check_constants.proofs.bytes.add_zeros.Given as goal

abbrev pub invariant-loop-place : goal.invariant-loop-place
invariant-loop-place l = l.bytes.items ++ replicate (l.count - l.place) 0 ≡ l.fn.bytes.items ++ replicate l.count 0
