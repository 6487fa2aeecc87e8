use Rattle.std.proofs.Common.{◌≡◌, take}
use Rattle.pg_check_rules.specs.Constants.{trimmed}
use Rattle.pg_check_constants.proofs.bytes.trimmed_length.Given as goal

abbrev pub invariant-loop-place : goal.invariant-loop-place
invariant-loop-place l = take l.length l.bytes ≡ trimmed (take l.place l.bytes)
