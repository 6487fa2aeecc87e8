use Rattle.std.proofs.Common.{◌-◌, length, drop}
use Rattle.pg_schedule.specs.Links.{AreListed, accesses_byte, numbers_of}
use Rattle.pg_schedule.proofs.links.links_of.Given as goal

abbrev pub invariant-loop-k : goal.invariant-loop-k
invariant-loop-k l = AreListed (length l.t.steps) l.links (λ b. numbers_of (accesses_byte b) (length l.t.steps - l.k) (drop (length l.t.steps - l.k) l.t.steps))
