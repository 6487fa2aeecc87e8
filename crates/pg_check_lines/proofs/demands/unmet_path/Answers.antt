use Rattle.std.proofs.Common.{[], ◌∷◌, map, ap, ◌∙◌}
use Rattle.std.specs.List.{flat_map}
use Rattle.pg_read_ast.specs.declared.values.TypedVal.{TypedVal}
use Rattle.pg_read_ast.specs.Views.{ty_of, typed_of}
use Rattle.pg_check_types.specs.NumberedTypes.{named_types}
use Rattle.pg_check_rules.specs.Earliest.{earliest}
use Rattle.pg_check_rules.specs.TypeConditions.{unmet}
use Rattle.pg_check_rules.specs.Written.{asks, asks_typed}
use Rattle.pg_check_rules.proofs.Parts.{map_twice}
use Rattle.pg_check_values.specs.declared.type_tests.TypeTest.TheVariants.{Integer, Pointer, NotVoid}
use Rattle.pg_check_values.specs.Tests.{test_of}
use Rattle.pg_check_values.proofs.JoinedRows.{two_demands}
use Rattle.pg_check_lines.proofs.demands.unmet_path.Goals as goal

pub returns : goal.returns
returns c = record {
  place =
      two_demands c.args.types.now.items
      (λ types. asks (test_of NotVoid) (ty_of c.args.ty.now) ∷ asks_typed (test_of Pointer) (typed_of c.args.pointer.now) ∷ [])
      (λ types. map (λ (i : TypedVal). asks_typed (test_of Integer) (typed_of i)) c.args.indices.now)
      c.in_ok-front.front c.in_ok-path.path c.earlier.result c.in_ok-front.ensures.place c.in_ok-path.ensures.place c.earlier.ensures
      ∙ ap (λ ds. earliest (flat_map (unmet (named_types c.args.types.now)) (asks (test_of NotVoid) (ty_of c.args.ty.now) ∷ asks_typed (test_of Pointer) (typed_of c.args.pointer.now) ∷ ds)))
      (map_twice (asks_typed (test_of Integer)) typed_of c.args.indices.now);
}
