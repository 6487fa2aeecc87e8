use Rattle.std.proofs.Common.{◌≡◌, drop}
use Rattle.pg_slice_values.specs.SymbolicNodes.{blamed}
use Rattle.pg_slice_values.proofs.form.blamed.Given as goal

abbrev pub invariant-loop-operand : goal.invariant-loop-operand
invariant-loop-operand l = blamed l.fn.operands ≡ blamed (drop l.operand-index l.operands)
