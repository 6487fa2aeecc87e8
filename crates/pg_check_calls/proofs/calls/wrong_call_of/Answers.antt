use Rattle.std.proofs.Common.{◌++◌, map, sym, ap, ◌∙◌}
use Rattle.std.specs.Option.{option_map}
use Rattle.pg_read_ast.specs.Views.{ty_of, typed_of, written_of}
use Rattle.pg_check_types.specs.NumberedTypes.{named_types}
use Rattle.pg_check_rules.specs.Symbols.{symbol_of}
use Rattle.pg_check_rules.specs.Earliest.{earlier, earliest}
use Rattle.pg_check_rules.specs.CallConditions.{header_of, wrong_header, variable_symbol}
use Rattle.pg_check_rules.proofs.Rows.{earliest_more}
use Rattle.pg_check_calls.specs.Calls.{wrong_arguments}
use Rattle.pg_check_calls.proofs.calls.wrong_call_of.Goals as goal

pub returns : goal.returns
returns c = record {
  place =
      let types = named_types c.args.types.now in
      let symbol = symbol_of c.args.symbol in
      let ty = ty_of c.args.ty.now in
      let written = option_map written_of c.args.written.now in
      let head = wrong_header types (header_of symbol) ty written in
      let variable = variable_symbol symbol c.args.name.now.span in
      let number = wrong_arguments symbol (map typed_of c.args.arguments.now) c.args.name.now in
      c.earlier-2.ensures
      ∙ ap (λ o. earlier o c.earlier.result) (c.in_ok-head.ensures.place ∙ ap (λ h. earliest (wrong_header types h ty written)) c.in_ok-header.ensures)
      ∙ ap (λ o. earlier (earliest head) o)
      (c.earlier.ensures
      ∙ ap (λ o. earlier o c.in_ok-number.number) c.variable_symbol-variable.ensures
      ∙ ap (λ o. earlier (earliest variable) o) c.in_ok-number.ensures
      ∙ sym (earliest_more variable number))
      ∙ sym (earliest_more head (variable ++ number));
}
