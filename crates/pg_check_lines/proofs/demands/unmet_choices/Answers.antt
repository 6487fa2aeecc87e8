use Rattle.std.proofs.Common.{[], ◌∷◌}
use Rattle.pg_read_ast.specs.Views.{typed_of}
use Rattle.pg_check_types.specs.Resolved.{resolved}
use Rattle.pg_check_types.specs.Kinds.{is_as}
use Rattle.pg_check_rules.specs.Written.{asks_typed}
use Rattle.pg_check_values.specs.declared.type_tests.TypeTest.TheVariants.{Scalar}
use Rattle.pg_check_values.specs.Tests.{test_of}
use Rattle.pg_check_values.proofs.JoinedRows.{two_demands}
use Rattle.pg_check_lines.proofs.demands.unmet_choices.Goals as goal

pub returns : goal.returns
returns c = record {
  place =
      two_demands c.args.types.now.items
      (λ types. asks_typed (test_of Scalar) (typed_of c.args.one.now) ∷ [])
      (λ types. asks_typed (is_as (resolved types (typed_of c.args.one.now).ty)) (typed_of c.args.other.now) ∷ [])
      c.in_ok-scalar.scalar c.in_ok-same.same c.earlier.result c.in_ok-scalar.ensures.place c.in_ok-same.ensures.place c.earlier.ensures;
}
