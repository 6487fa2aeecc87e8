-- What it takes that the register that an instruction sets is known, whole or by its bounds alone.
use Rattle.std.specs.Prelude.{ℕ, List, [], Bool, true, map}
use Rattle.pg_ir.specs.declared.value.Index.{Index}
use Rattle.pg_ir.specs.declared.value.Value.{Value}
use Rattle.pg_ir.specs.declared.library_call.LibraryCall.TheVariants as known
use Rattle.pg_ir.specs.declared.instr.Op.{Op}
use Rattle.pg_ir.specs.declared.instr.Op.TheVariants as op
use Rattle.pg_run_thread.specs.Operands.{operands_of}
use Rattle.pg_law_demands.specs.Cells.{Demand}
use Rattle.pg_law_demands.specs.Back.{back_moved, of_operand, of_values}

abbrev pub made_by : ℕ → ℕ → Op → Bool → List Demand
made_by t k (op.Alloca bytes) whole = []
made_by t k (op.CallLibrary known.PgIn args) whole = of_operand t k true (op.CallLibrary known.PgIn args) 0
made_by t k (op.CallLibrary f args) whole = []
made_by t k (op.Gep base indices) whole = back_moved t k (op.Gep base indices) whole
made_by t k o whole = of_values t k (operands_of o)

abbrev pub index_values : List Index → List Value
index_values xs = map (λ (i : Index). i.value) xs
