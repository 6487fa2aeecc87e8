use Rattle.std.proofs.Common.{◌∙◌}
use Rattle.pg_read_ast.specs.Views.{ty_of}
use Rattle.pg_check_types.specs.NumberedTypes.{named_types}
use Rattle.pg_check_types.proofs.Resolutions.{if_ok}
use Rattle.pg_check_rules.specs.TypeConditions.{unmet}
use Rattle.pg_check_rules.specs.Written.{asks}
use Rattle.pg_check_values.specs.Tests.{test_of}
use Rattle.pg_check_values.proofs.JoinedRows.{one_row}
use Rattle.pg_check_values.proofs.typed_tests.unmet_one.Goals as goal

pub returns : goal.returns
returns c = record {
  place = if_ok c.unmet.result (λ o h. h ∙ one_row (unmet (named_types c.args.types.now)) (asks (test_of c.args.test) (ty_of c.args.ty.now))) c.unmet.ensures.place;
}
