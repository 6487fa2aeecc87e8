use Rattle.std.proofs.Common.{sym, ap, ◌∙◌}
use Rattle.std.specs.List.{flat_map}
use Rattle.pg_read_ast.specs.Views.{ty_of, op_of}
use Rattle.pg_check_types.specs.Resolved.{resolved}
use Rattle.pg_check_rules.specs.Earliest.{earliest}
use Rattle.pg_check_rules.specs.TypeConditions.{unmet}
use Rattle.pg_check_rules.specs.Written.{op_demands}
use Rattle.pg_check_rules.specs.CallConditions.{call_demands}
use Rattle.pg_check_calls.proofs.of_pg_check_values.JoinedRows.{two_rows}
use Rattle.pg_check_bodies.proofs.line_parts.unmet_demands.Goals as goal

pub returns : goal.returns
returns c = record {
  place = λ g s.
      let op = op_of c.args.op.now in
      let returned = ty_of c.args.scope.now.result.now in
      two_rows (unmet g.tree.types) (op_demands g.tree.types g.result op) (call_demands g op) c.in_ok-own.own c.in_ok-arguments.arguments c.earlier.result
      (c.in_ok-own.ensures.place
      ∙ ap (λ types. earliest (flat_map (unmet types) (op_demands types (resolved types returned) op))) (sym s.values.types)
      ∙ ap (λ r. earliest (flat_map (unmet g.tree.types) (op_demands g.tree.types r op))) (sym s.result))
      (c.in_ok-arguments.ensures.place g s)
      c.earlier.ensures;
}
