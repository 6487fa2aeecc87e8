use Rattle.std.proofs.Common.{[], ◌∷◌}
use Rattle.std.specs.Option.{option_map}
use Rattle.pg_read_ast.specs.Views.{ty_of, count_of}
use Rattle.pg_check_rules.specs.Written.{asks, count_demands}
use Rattle.pg_check_values.specs.declared.type_tests.TypeTest.TheVariants.{NotVoid}
use Rattle.pg_check_values.specs.Tests.{test_of}
use Rattle.pg_check_values.proofs.JoinedRows.{two_demands}
use Rattle.pg_check_lines.proofs.demands.unmet_alloca.Goals as goal

pub returns : goal.returns
returns c = record {
  place =
      two_demands c.args.types.now.items
      (λ types. asks (test_of NotVoid) (ty_of c.args.ty.now) ∷ [])
      (λ types. count_demands (option_map count_of c.args.count.now))
      c.in_ok-void.void c.in_ok-number.number c.earlier.result c.in_ok-void.ensures.place c.in_ok-number.ensures.place c.earlier.ensures;
}
