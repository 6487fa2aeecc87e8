use Rattle.std.proofs.Common.{[], ◌∷◌, map, ap, ◌∙◌}
use Rattle.std.specs.List.{flat_map}
use Rattle.pg_read_ast.specs.declared.ops.CaseNode.{CaseNode}
use Rattle.pg_read_ast.specs.Syntax.{Case}
use Rattle.pg_read_ast.specs.Views.{typed_of, case_of}
use Rattle.pg_check_types.specs.Resolved.{resolved}
use Rattle.pg_check_types.specs.Kinds.{is_as}
use Rattle.pg_check_types.specs.NumberedTypes.{named_types}
use Rattle.pg_check_rules.specs.Earliest.{earliest}
use Rattle.pg_check_rules.specs.TypeConditions.{unmet}
use Rattle.pg_check_rules.specs.Written.{asks_typed}
use Rattle.pg_check_rules.proofs.Parts.{map_twice}
use Rattle.pg_check_values.specs.declared.type_tests.TypeTest.TheVariants.{Integer}
use Rattle.pg_check_values.specs.Tests.{test_of}
use Rattle.pg_check_values.proofs.JoinedRows.{two_demands}
use Rattle.pg_check_lines.proofs.demands.unmet_switch.Goals as goal

pub returns : goal.returns
returns c = record {
  place =
      two_demands c.args.types.now.items
      (λ types. asks_typed (test_of Integer) (typed_of c.args.value.now) ∷ [])
      (λ types. map (λ (k : CaseNode). asks_typed (is_as (resolved types (typed_of c.args.value.now).ty)) (case_of k).value) c.args.cases.now)
      c.in_ok-integer.integer c.in_ok-same.same c.earlier.result c.in_ok-integer.ensures.place c.in_ok-same.ensures.place c.earlier.ensures
      ∙ ap (λ ds. earliest (flat_map (unmet (named_types c.args.types.now)) (asks_typed (test_of Integer) (typed_of c.args.value.now) ∷ ds)))
      (map_twice (λ (k : Case). asks_typed (is_as (resolved (named_types c.args.types.now) (typed_of c.args.value.now).ty)) k.value) case_of c.args.cases.now);
}
