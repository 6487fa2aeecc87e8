use Rattle.std.proofs.Common.{◌≡◌, length, drop, map}
use Rattle.std.specs.List.{AllByRecursion}
use Rattle.pg_ir.specs.declared.value.Index.{Index}
use Rattle.pg_ir.specs.Operands.{CanRead}
use Rattle.pg_run_thread.specs.Step.{are_set}
use Rattle.pg_run_thread.proofs.operands.have_index_values.Given as goal

abbrev pub invariant-loop-index : goal.invariant-loop-index
invariant-loop-index l = record {
  same : are_set l.p l.registers (map (λ (i : Index). i.value) l.fn.indices) ≡ are_set l.p l.registers (map (λ (i : Index). i.value) (drop l.index-index l.indices));
  fits : AllByRecursion (λ (i : Index). CanRead l.p (length l.registers) i.value) (drop l.index-index l.indices);
}
