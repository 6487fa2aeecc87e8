use Rattle.std.proofs.Common.{◌≡◌, ◌≤◌, ◌-◌, drop, length}
use Rattle.pg_run_trace.specs.Races as races
use Rattle.pg_schedule.proofs.pairs.instrs_in.Given as goal

abbrev pub invariant-loop-k : goal.invariant-loop-k
invariant-loop-k l = (l.bound ≡ races.instrs_in (drop (length l.t.steps - l.k) l.t.steps)) × (l.bound ≤ 4294967296)
