use Rattle.std.proofs.Common.{◌≡◌, length, drop}
use Rattle.std.specs.List.{AllByRecursion}
use Rattle.pg_ir.specs.Operands.{CanRead}
use Rattle.pg_run_thread.specs.Step.{are_set}
use Rattle.pg_run_thread.proofs.operands.are_set.Given as goal

abbrev pub invariant-loop-arg : goal.invariant-loop-arg
invariant-loop-arg l = record {
  same : are_set l.p l.registers l.fn.args ≡ are_set l.p l.registers (drop l.arg-index l.args);
  fits : AllByRecursion (CanRead l.p (length l.registers)) (drop l.arg-index l.args);
}
