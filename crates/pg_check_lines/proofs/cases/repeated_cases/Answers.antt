use Rattle.std.proofs.Common.{map, None, ap, ◌∙◌}
use Rattle.std.specs.List.{flat_map}
use Rattle.pg_read_ast.specs.Views.{ty_of, case_of}
use Rattle.pg_check_types.specs.NumberedTypes.{named_types}
use Rattle.pg_check_types.specs.Resolved.{resolved}
use Rattle.pg_check_rules.specs.Earliest.{earliest}
use Rattle.pg_check_lines.specs.Cases.{repeated, starts_behind}
use Rattle.pg_check_lines.proofs.CaseStarts.{cases_are}
use Rattle.pg_check_lines.proofs.cases.repeated_cases.Goals as goal

pub returns : goal.returns
returns c = record {
  place =
      let all = c.in_ok-places.places.items in
      let cases = map case_of c.args.cases.now in
      c.repeated_places.ensures all (λ n. c.in_ok-starts.ensures n ∙ ap (λ xs. starts_behind None xs n) c.as_slice.ensures.value)
      ∙ ap (λ xs. earliest (flat_map (repeated all) xs)) c.as_slice-2.ensures.value
      ∙ ap (λ xs. earliest (flat_map (repeated xs) xs)) c.in_ok-places.ensures.places
      ∙ ap (λ xs. earliest xs) (cases_are (resolved (named_types c.args.types.now) (ty_of c.args.ty.now)) cases cases);
}
