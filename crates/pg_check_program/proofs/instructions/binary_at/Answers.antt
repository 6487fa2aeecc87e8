use Rattle.std.proofs.Common.{◌∙◌}
use Rattle.pg_check_rules.specs.Numbered.{binary_op}
use Rattle.pg_check_program.proofs.EqualParts.{same_three}
use Rattle.pg_check_program.proofs.instructions.binary_at.Goals as goal

pub returns : goal.returns
returns c = record {
  op = λ names.
      c.binary_op-found.ensures ∙ same_three (λ w a b. binary_op c.args.op w a b) (c.in_ok-width.ensures.width names) (c.in_ok-left.ensures.value names) (c.in_ok-right.ensures.value names);
}
