use Rattle.std.proofs.Common.{◌≡◌}
use Rattle.pg_crew.specs.Workers.{counted, turns_since}
use Rattle.pg_crew.proofs.counts.Done.counted.Given as goal

abbrev pub invariant-loop-t : goal.invariant-loop-t
invariant-loop-t l = l.count ≡ counted l.fn.count (turns_since l.t l.self.turns l.workers)
