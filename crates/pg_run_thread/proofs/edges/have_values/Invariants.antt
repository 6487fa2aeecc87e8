use Rattle.std.proofs.Common.{◌≡◌, length, drop, map}
use Rattle.std.specs.List.{AllByRecursion}
use Rattle.pg_ir.specs.Operands.{CanReadReturned}
use Rattle.pg_run_thread.specs.Operands.{optional_operand}
use Rattle.pg_run_thread.specs.Needs.{are_given}
use Rattle.pg_run_thread.proofs.edges.have_values.Given as goal

abbrev pub invariant-loop-of : goal.invariant-loop-of
invariant-loop-of l = record {
  same : are_given (map (optional_operand l.p l.registers) l.fn.row) ≡ are_given (map (optional_operand l.p l.registers) (drop l.of-index l.row));
  fits : AllByRecursion (CanReadReturned l.p (length l.registers)) (drop l.of-index l.row);
}
