use Rattle.std.proofs.Common.{◌≡◌, ◌≤◌, ◌+◌, ◌++◌, replicate, None, vec_capacity, vec_len}
use Rattle.pg_run_thread.proofs.room.push_unset.Given as goal

abbrev pub invariant-loop : goal.invariant-loop
invariant-loop l = record {
  items : l.registers.items ≡ l.fn.registers.items ++ replicate l.counter None;
  len : vec_len l.registers ≡ vec_len l.fn.registers + l.counter;
  room : vec_capacity l.fn.registers ≤ vec_capacity l.registers;
}
