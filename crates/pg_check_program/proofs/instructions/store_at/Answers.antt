use Rattle.pg_ir.specs.declared.instr.Op.TheVariants as operation
use Rattle.pg_check_program.proofs.EqualParts.{same_three}
use Rattle.pg_check_program.proofs.instructions.store_at.Goals as goal

pub returns : goal.returns
returns c = record {
  op = λ names.
      same_three (λ w v p. operation.Store w v p) (c.in_ok-width.ensures.width names) (c.in_ok-value.ensures.value names) (c.in_ok-at.ensures.value names);
}
