use Rattle.std.proofs.Common.{◌∙◌}
use Rattle.pg_check_rules.specs.Numbered.{cast_op}
use Rattle.pg_check_program.proofs.EqualParts.{same_three}
use Rattle.pg_check_program.proofs.instructions.cast_at.Goals as goal

pub returns : goal.returns
returns c = record {
  op = λ names.
      c.cast_op-found.ensures ∙ same_three (λ f t v. cast_op c.args.op f t v) (c.in_ok-from.ensures.width names) (c.in_ok-to.ensures.width names) (c.in_ok-of.ensures.value names);
}
