use Rattle.std.proofs.Common.{◌≡◌, IfOk, sym, subst, ◌∙◌}
use Rattle.pg_read_ast.specs.Views.{ty_of}
use Rattle.pg_check_types.proofs.Resolutions.{if_ok}
use Rattle.pg_check_rules.specs.ValueConditions.{wrong_use}
use Rattle.pg_check_rules.specs.Earliest.{earliest}
use Rattle.pg_check_lines.specs.declared.operands.UseNode.{UseNode}
use Rattle.pg_check_lines.specs.Uses.{use_of, row_within}
use Rattle.pg_check_lines.proofs.UseRows.{literal_row}
use Rattle.pg_check_lines.proofs.line_uses.wrong_use.Goals as goal

pub returns-in-Count : goal.returns-in-Count
returns-in-Count c = record {
  place = λ g s.
      let n = c.in-Count.count.now in
      subst (λ (u : UseNode). IfOk c.wrong_literal.result (λ o. o ≡ earliest (row_within (wrong_use g) (use_of u)))) (sym c.in-Count.is)
      (if_ok c.wrong_literal.result (λ o h. h ∙ literal_row (wrong_use g) (ty_of n.ty) n.count) (c.wrong_literal.ensures.place g s.values.types));
}
