use Rattle.std.proofs.Common.{◌++◌, sym, ap, ◌∙◌}
use Rattle.std.specs.List.{flat_map}
use Rattle.pg_read_ast.specs.Views.{line_of}
use Rattle.pg_check_types.specs.NumberedTypes.{named_types}
use Rattle.pg_check_rules.specs.Nodes.{tys_behind}
use Rattle.pg_check_rules.specs.Written.{with_inner, op_demands}
use Rattle.pg_check_rules.specs.TypeConditions.{wrong_types, unmet}
use Rattle.pg_check_rules.specs.ValueConditions.{wrong_use}
use Rattle.pg_check_rules.specs.CallConditions.{call_demands}
use Rattle.pg_check_rules.specs.LineConditions.{line_types, line_uses, wrong_call}
use Rattle.pg_check_rules.specs.Earliest.{earliest}
use Rattle.pg_check_bodies.specs.Lines.{wrong_otherwise}
use Rattle.pg_check_bodies.proofs.LineRows.{rows_joined, wrong_types_row}
use Rattle.pg_check_bodies.proofs.lines.wrong_in_line.Goals as goal

pub returns : goal.returns
returns c = record {
  place = λ g s w u.
      let l = line_of c.args.line.now in
      let types = wrong_types g.tree.types (line_types l.op) in
      let demands = flat_map (unmet g.tree.types) (op_demands g.tree.types g.result l.op ++ call_demands g l.op) in
      let values = flat_map (wrong_use g) (line_uses g l.op) in
      let call = wrong_call g l.op in
      let others = wrong_otherwise g l in
      rows_joined types (demands ++ (values ++ (call ++ others))) c.in_ok-ty.ty c.earlier-3.result c.earlier-4.result
      (wrong_types_row (named_types c.args.scope.now.values.types.now) g.tree.types (tys_behind c.args.written.now) (line_types l.op) c.in_ok-ty.ty c.in_ok-ty.ensures.place (sym s.values.types) w)
      (rows_joined demands (values ++ (call ++ others)) c.in_ok-unmet.unmet c.earlier-2.result c.earlier-3.result
      (c.in_ok-unmet.ensures.place g s)
      (rows_joined values (call ++ others) c.in_ok-value.value c.earlier.result c.earlier-2.result
      (c.in_ok-value.ensures.place g s ∙ ap (λ us. earliest (flat_map (wrong_use g) (flat_map with_inner us))) u)
      (rows_joined call others c.in_ok-call.call c.in_ok-other.other c.earlier.result
      (c.in_ok-call.ensures.place g s)
      (c.in_ok-other.ensures.place g s)
      c.earlier.ensures)
      c.earlier-2.ensures)
      c.earlier-3.ensures)
      c.earlier-4.ensures;
}
