use Rattle.std.proofs.Common.{◌≤◌, drop, length}
use Rattle.pg_law_runs.specs.pg_law_effects.Reached.{HoldBytes}
use Rattle.pg_law_order.proofs.running.globals_hold_bytes.Given as goal

abbrev pub invariant-loop-left : goal.invariant-loop-left
invariant-loop-left l = record {
  within : l.left ≤ length l.p.globals;
  bytes : HoldBytes (drop l.left l.p.globals);
}

abbrev pub decreases-loop-left : goal.decreases-loop-left
decreases-loop-left l = l.left
