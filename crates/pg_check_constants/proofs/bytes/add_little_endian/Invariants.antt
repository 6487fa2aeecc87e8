use Rattle.std.proofs.Common.{◌≡◌, ◌-◌, ◌++◌}
use Rattle.pg_check_rules.specs.Constants.{little_endian}
use Rattle.pg_check_constants.proofs.bytes.add_little_endian.Given as goal

abbrev pub invariant-loop-place : goal.invariant-loop-place
invariant-loop-place l = l.bytes.items ++ little_endian (l.count - l.place) l.rest ≡ l.fn.bytes.items ++ little_endian l.count l.fn.number
