use Rattle.std.proofs.Common.{◌≡◌, ◌≤◌, replicate, None, vec_capacity, vec_len}
use Rattle.pg_run_thread.proofs.room.reserved.Given as goal

abbrev pub invariant-loop : goal.invariant-loop
invariant-loop l = record {
  items : l.registers.items ≡ replicate l.counter None;
  len : vec_len l.registers ≡ l.counter;
  room : l.room ≤ vec_capacity l.registers;
}
