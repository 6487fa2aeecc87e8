use Rattle.std.proofs.Common.{◌≡◌, replicate, None}
use Rattle.pg_check_types.proofs.items.no_numbers.Given as goal

abbrev pub invariant-loop : goal.invariant-loop
invariant-loop l = l.items.items ≡ replicate l.counter None
