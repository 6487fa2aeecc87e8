use Rattle.std.proofs.Common.{◌*◌, ap, ◌∙◌}
use Rattle.pg_ir.specs.declared.instr.Op.TheVariants as operation
use Rattle.pg_check_program.proofs.EqualParts.{same_two}
use Rattle.pg_check_program.proofs.instructions.alloca_at.Goals as goal

pub returns : goal.returns
returns c = record {
  op = λ names.
      ap (λ n. operation.Alloca n) (c.size_of_all-bytes.ensures ∙ same_two (λ a b. a * b) (c.in_ok-size.ensures.size names) (c.in_ok-count.ensures.count names));
}
