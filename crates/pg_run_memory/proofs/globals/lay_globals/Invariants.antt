use Rattle.std.proofs.Common.{◌≡◌, ℕ, ◌≤◌, drop, length}
use Rattle.pg_run_memory.specs.Initial.{initial_byte}
use Rattle.pg_run_memory.specs.Memory.{byte_at}
use Rattle.pg_run_memory.proofs.globals.lay_globals.Given as goal

abbrev pub invariant-loop-left : goal.invariant-loop-left
invariant-loop-left l = record {
  within : l.left ≤ length l.p.globals;
  bytes : (b : ℕ) → byte_at l.memory b ≡ initial_byte (drop l.left l.p.globals) b;
}

abbrev pub decreases-loop-left : goal.decreases-loop-left
decreases-loop-left l = l.left
