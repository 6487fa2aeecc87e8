use Rattle.std.proofs.Common.{◌≡◌, length, drop}
use Rattle.std.specs.List.{AllByRecursion}
use Rattle.pg_ir.specs.declared.value.Index.{Index}
use Rattle.pg_ir.specs.Operands.{CanRead}
use Rattle.pg_run_thread.specs.Needs.{HasWidth, moved_each_if}
use Rattle.pg_run_thread.proofs.optional.moved.Given as goal

abbrev pub invariant-loop-index : goal.invariant-loop-index
invariant-loop-index l = record {
  same : moved_each_if l.p l.registers l.fn.word l.fn.indices ≡ moved_each_if l.p l.registers l.word (drop l.index-index l.indices);
  fits : AllByRecursion (λ (i : Index). CanRead l.p (length l.registers) i.value) (drop l.index-index l.indices);
  widths : AllByRecursion (λ (i : Index). HasWidth l.p l.registers i.width i.value) (drop l.index-index l.indices);
}
