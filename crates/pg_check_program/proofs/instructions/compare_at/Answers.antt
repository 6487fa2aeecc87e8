use Rattle.std.proofs.Common.{refl}
use Rattle.pg_ir.specs.declared.instr.Op.TheVariants as operation
use Rattle.pg_check_program.proofs.EqualParts.{same_four}
use Rattle.pg_check_program.proofs.instructions.compare_at.Goals as goal

pub returns : goal.returns
returns c = record {
  op = λ names.
      same_four (λ o w a b. operation.Compare o w a b) refl (c.in_ok-width.ensures.width names) (c.in_ok-left.ensures.value names) (c.in_ok-right.ensures.value names);
}
