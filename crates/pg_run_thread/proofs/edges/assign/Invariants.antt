use Rattle.std.proofs.Common.{◌≡◌, length, drop}
use Rattle.std.specs.List.{AllByRecursion}
use Rattle.pg_ir.specs.Operands.{CanTakePhi}
use Rattle.pg_run_thread.specs.EdgeStep.{set_each}
use Rattle.pg_run_thread.proofs.edges.assign.Given as goal

abbrev pub invariant-loop-i : goal.invariant-loop-i
invariant-loop-i l = record {
  set : set_each l.fn.registers l.phis l.values ≡ set_each l.registers (drop l.i l.phis) (drop l.i l.values);
  size : length l.registers ≡ length l.fn.registers;
  fits : AllByRecursion (CanTakePhi l.p (length l.registers)) (drop l.i l.phis);
}
