use Rattle.std.proofs.Common.{◌≡◌, ◌≤◌, ◌&&◌, length, drop, take, map, vec_capacity, vec_len}
use Rattle.std.specs.List.{AllByRecursion}
use Rattle.pg_ir.specs.Operands.{CanReadReturned}
use Rattle.pg_run_thread.specs.Operands.{optional_operand}
use Rattle.pg_run_thread.specs.Needs.{are_given}
use Rattle.pg_run_thread.proofs.edges.gather.Given as goal

abbrev pub invariant-loop-of : goal.invariant-loop-of
invariant-loop-of l = record {
  values : l.room.items ≡ map (optional_operand l.p l.registers) (take l.of-index l.row);
  len : vec_len l.room ≡ l.of-index;
  room : vec_capacity l.fn.room ≤ vec_capacity l.room;
  given : are_given (map (optional_operand l.p l.registers) l.fn.row) ≡ (l.given && are_given (map (optional_operand l.p l.registers) (drop l.of-index l.row)));
  fits : AllByRecursion (CanReadReturned l.p (length l.registers)) (drop l.of-index l.row);
}
