use Rattle.std.proofs.Common.{◌≡◌, map, take}
use Rattle.std.specs.List.{flat_map}
use Rattle.pg_read_ast.specs.declared.values.TypedVal.{TypedVal}
use Rattle.pg_read_ast.specs.Views.{typed_of}
use Rattle.pg_check_types.specs.NumberedTypes.{named_types}
use Rattle.pg_check_rules.specs.Earliest.{earliest}
use Rattle.pg_check_rules.specs.TypeConditions.{unmet}
use Rattle.pg_check_rules.specs.Written.{asks_typed}
use Rattle.pg_check_values.specs.declared.type_tests.TypeTest.TheVariants.{Integer}
use Rattle.pg_check_values.specs.Tests.{test_of}
use Rattle.pg_check_lines.proofs.demands.unmet_indices.Given as goal

abbrev pub invariant-loop-index : goal.invariant-loop-index
invariant-loop-index l = l.found ≡ earliest (flat_map (unmet (named_types l.types)) (map (λ (k : TypedVal). asks_typed (test_of Integer) (typed_of k)) (take l.index-index l.indices)))
