use Rattle.std.proofs.Common.{◌∷◌, map, sym, ap, ◌∙◌}
use Rattle.std.specs.List.{flat_map}
use Rattle.pg_read_ast.specs.Syntax.{Case}
use Rattle.pg_read_ast.specs.Views.{ty_of, typed_of, case_of, op_of}
use Rattle.pg_check_types.specs.Resolved.{resolved}
use Rattle.pg_check_types.specs.Kinds.{is_as}
use Rattle.pg_check_types.specs.NumberedTypes.{named_types}
use Rattle.pg_check_types.proofs.Resolutions.{if_ok}
use Rattle.pg_check_rules.specs.Earliest.{earliest}
use Rattle.pg_check_rules.specs.TypeConditions.{unmet}
use Rattle.pg_check_rules.specs.Written.{asks_typed, op_demands}
use Rattle.pg_check_values.specs.declared.type_tests.TypeTest.TheVariants.{Integer}
use Rattle.pg_check_values.specs.Tests.{test_of}
use Rattle.pg_check_lines.proofs.demands.op_demands.Goals as goal

pub returns-in-Switch : goal.returns-in-Switch
unfolding op_demands
returns-in-Switch c = record {
  place =
      let types = named_types c.args.types.now in
      let returned = resolved types (ty_of c.args.returned.now) in
      let value = c.in-Switch.value in
      if_ok c.unmet_switch.result
      (λ o h. h
      ∙ ap (λ xs. earliest (flat_map (unmet types)
      (asks_typed (test_of Integer) (typed_of value) ∷ map (λ (k : Case). asks_typed (is_as (resolved types (typed_of value).ty)) k.value) (map case_of xs)))) c.as_slice.ensures.value
      ∙ ap (λ x. earliest (flat_map (unmet types) (op_demands types returned (op_of x)))) (sym c.in-Switch.is))
      c.unmet_switch.ensures.place;
}
