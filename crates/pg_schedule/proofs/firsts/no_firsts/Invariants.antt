use Rattle.std.proofs.Common.{◌≡◌, None, replicate}
use Rattle.pg_schedule.proofs.firsts.no_firsts.Given as goal

abbrev pub invariant-loop-id : goal.invariant-loop-id
invariant-loop-id l = l.firsts.items ≡ replicate l.id None
