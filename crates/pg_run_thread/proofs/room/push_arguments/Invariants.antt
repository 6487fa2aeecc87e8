use Rattle.std.proofs.Common.{◌≡◌, ◌≤◌, ◌+◌, ◌-◌, ◌++◌, drop, length, map, take, vec_capacity, vec_len}
use Rattle.pg_run_thread.specs.Operands.{operand}
use Rattle.pg_run_thread.proofs.room.push_arguments.Given as goal

abbrev pub invariant-loop-arg : goal.invariant-loop-arg
invariant-loop-arg l = record {
  items : l.registers.items ≡ l.fn.registers.items ++ map (operand l.p (drop l.base l.fn.registers.items)) (take l.arg-index l.args);
  part : take (l.used - l.base) (drop l.base l.registers.items) ≡ drop l.base l.fn.registers.items;
  used : l.used ≡ length l.fn.registers.items;
  len : vec_len l.registers ≡ vec_len l.fn.registers + l.arg-index;
  room : vec_capacity l.fn.registers ≤ vec_capacity l.registers;
}
