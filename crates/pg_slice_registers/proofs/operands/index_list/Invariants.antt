use Rattle.std.proofs.Common.{◌≡◌, ◌∷◌, ◌++◌, map, drop}
use Rattle.pg_ir.specs.declared.value.Index.{Index}
use Rattle.pg_slice_registers.proofs.operands.index_list.Given as goal

abbrev pub invariant-loop-index : goal.invariant-loop-index
invariant-loop-index l = l.list.items ++ map (λ (i : Index). i.value) (drop l.index-index l.indices) ≡ l.fn.base ∷ map (λ (i : Index). i.value) l.indices
