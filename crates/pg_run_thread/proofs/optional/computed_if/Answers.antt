use Rattle.std.proofs.Common.{◌≡◌, ◌∙◌, ℕ, Option, Some, sym, ap}
use Rattle.pg_ir.specs.declared.instr.Op.TheVariants.{Gep}
use Rattle.pg_run_thread.specs.Operands.{operand, argument, operands_of}
use Rattle.pg_run_thread.specs.Compute.{moved_if, with_value}
use Rattle.pg_run_thread.proofs.Computed.{along_operands_if}
use Rattle.pg_run_thread.proofs.optional.computed_if.Goals as goal

pub returns-in-Some-value_of-2 : goal.returns-in-Some-value_of-2
returns-in-Some-value_of-2 c =
    let p = c.args.p.now in
    let rs = c.args.registers.now in
    let base : operand p rs c.in-Gep.base ≡ Some c.in-Some-value_of-2.word = sym c.value_of-in-Gep.ensures ∙ c.in-Some-value_of-2.is in
    rw c.in-Gep.is
    ((rw c.as_slice.ensures.items at c.moved.ensures)
    ∙ sym (along_operands_if p rs c.in-Some-value_of-2.word c.in-Gep.base c.in-Gep.indices)
    ∙ sym (ap (λ (o : Option ℕ). with_value o (λ word. moved_if word c.in-Gep.indices (argument p rs (operands_of (Gep c.in-Gep.base c.in-Gep.indices))) 1)) base))
