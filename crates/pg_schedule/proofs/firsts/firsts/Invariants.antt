use Rattle.std.proofs.Common.{◌≡◌, ◌-◌, length}
use Rattle.pg_run_trace.specs.Races as races
use Rattle.pg_schedule.specs.Firsts.{AreFirst}
use Rattle.pg_schedule.proofs.firsts.firsts.Given as goal

abbrev pub invariant-loop-k : goal.invariant-loop-k
invariant-loop-k l = (length l.firsts.items ≡ races.instrs_in l.t.steps) × AreFirst (races.timed_by races.asked l.t.steps) (length l.t.steps - l.k) l.firsts.items
