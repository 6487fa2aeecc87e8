use Rattle.std.proofs.Common.{List, map, sym, ap, ◌∙◌}
use Rattle.std.specs.List.{flat_map}
use Rattle.pg_read_lex.specs.declared.token.Span.{Span}
use Rattle.pg_read_ast.specs.declared.ops.CaseNode.{CaseNode}
use Rattle.pg_read_ast.specs.Syntax.{Ty, NamedType}
use Rattle.pg_read_ast.specs.Views.{typed_of, case_of, op_of}
use Rattle.pg_check_types.specs.NumberedTypes.{named_types}
use Rattle.pg_check_types.specs.Resolved.{resolved}
use Rattle.pg_check_types.proofs.Resolutions.{if_ok}
use Rattle.pg_check_rules.specs.LineConditions.{repeated_case, equal_cases}
use Rattle.pg_check_rules.specs.Earliest.{earliest}
use Rattle.pg_check_lines.proofs.cases.equal_cases.Goals as goal

row : List NamedType → Ty → List CaseNode → List Span
row types t cases = flat_map (repeated_case (resolved types t) (map case_of cases)) (map case_of cases)

pub returns-in-Switch : goal.returns-in-Switch
unfolding row
returns-in-Switch c = record {
  place = λ g s.
      let types = named_types c.args.scope.now.values.types.now in
      let t = (typed_of c.in-Switch.value).ty in
      if_ok c.repeated_cases.result
      (λ o h. h
      ∙ ap (λ u. earliest (row types u c.as_slice.result.now)) c.value_type.ensures
      ∙ ap (λ cases. earliest (row types t cases)) c.as_slice.ensures.value
      ∙ ap (λ items. earliest (row items t c.in-Switch.cases.items)) (sym s.values.types)
      ∙ ap (λ x. earliest (equal_cases g (op_of x))) (sym c.in-Switch.is))
      c.repeated_cases.ensures.place;
}
