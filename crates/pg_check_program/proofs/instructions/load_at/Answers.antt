use Rattle.pg_ir.specs.declared.instr.Op.TheVariants as operation
use Rattle.pg_check_program.proofs.EqualParts.{same_two}
use Rattle.pg_check_program.proofs.instructions.load_at.Goals as goal

pub returns : goal.returns
returns c = record {
  op = λ names.
      same_two (λ w v. operation.Load w v) (c.in_ok-width.ensures.width names) (c.in_ok-from.ensures.value names);
}
