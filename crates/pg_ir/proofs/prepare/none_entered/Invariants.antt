use Rattle.std.proofs.Common.{◌≡◌, replicate, None}
use Rattle.pg_ir.proofs.prepare.none_entered.Given as goal

abbrev pub invariant-loop : goal.invariant-loop
invariant-loop l = l.entered.items ≡ replicate l.counter None
