use Rattle.std.proofs.Common.{[], ◌∷◌}
use Rattle.pg_read_ast.specs.Views.{typed_of}
use Rattle.pg_check_rules.specs.Written.{asks_typed}
use Rattle.pg_check_values.specs.declared.type_tests.TypeTest.TheVariants.{Scalar, Pointer}
use Rattle.pg_check_values.specs.Tests.{test_of}
use Rattle.pg_check_values.proofs.JoinedRows.{two_demands}
use Rattle.pg_check_lines.proofs.demands.unmet_store.Goals as goal

pub returns : goal.returns
returns c = record {
  place =
      two_demands c.args.types.now.items
      (λ types. asks_typed (test_of Scalar) (typed_of c.args.value.now) ∷ [])
      (λ types. asks_typed (test_of Pointer) (typed_of c.args.pointer.now) ∷ [])
      c.in_ok-own.own c.in_ok-place.place c.earlier.result c.in_ok-own.ensures.place c.in_ok-place.ensures.place c.earlier.ensures;
}
