use Rattle.std.proofs.Common.{◌∙◌}
use Rattle.pg_read_ast.specs.Views.{ty_of, typed_of}
use Rattle.pg_check_types.specs.Resolved.{resolved}
use Rattle.pg_check_types.specs.Kinds.{is_as}
use Rattle.pg_check_types.specs.NumberedTypes.{named_types}
use Rattle.pg_check_types.proofs.Resolutions.{if_ok}
use Rattle.pg_check_rules.specs.TypeConditions.{unmet}
use Rattle.pg_check_rules.specs.Written.{asks_typed}
use Rattle.pg_check_values.proofs.JoinedRows.{one_row}
use Rattle.pg_check_values.proofs.typed_tests.unmet_value_as.Goals as goal

pub returns : goal.returns
returns c = record {
  place = if_ok c.unmet_typed_as.result (λ o h. h
      ∙ one_row (unmet (named_types c.args.types.now)) (asks_typed (is_as (resolved (named_types c.args.types.now) (ty_of c.args.expected.now)))
      (typed_of c.args.value.now))) c.unmet_typed_as.ensures.place;
}
