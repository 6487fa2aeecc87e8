use Rattle.pg_check_types.specs.NumberedTypes.{named_types}
use Rattle.pg_check_rules.proofs.OtherLengths.{other_lengths}
use Rattle.pg_check_rules.proofs.signatures.are_params.Goals as goal

pub returns-then-scalars-params : goal.returns-then-scalars-params
returns-then-scalars-params c = record {
  same = other_lengths (named_types c.args.types.now) c.args.scalars.now c.args.params.now c.if-scalars-params.true;
}
