use Rattle.std.proofs.Common.{◌++◌, ap, ◌∙◌, sym}
use Rattle.std.specs.List.{flat_map}
use Rattle.pg_read_ast.specs.Views.{op_of}
use Rattle.pg_check_types.specs.NumberedTypes.{named_types}
use Rattle.pg_check_rules.specs.Nodes.{tys_behind}
use Rattle.pg_check_rules.specs.Written.{with_inner}
use Rattle.pg_check_rules.specs.TypeConditions.{unknown_types}
use Rattle.pg_check_rules.specs.ValueConditions.{unknown_value}
use Rattle.pg_check_rules.specs.CallConditions.{thread_functions}
use Rattle.pg_check_rules.specs.LineConditions.{line_types, line_uses, unknown_callee}
use Rattle.pg_check_rules.specs.Earliest.{earliest}
use Rattle.pg_check_lines.specs.Uses.{unknown_row}
use Rattle.pg_check_bodies.proofs.LineRows.{rows_joined, unknown_types_row}
use Rattle.pg_check_bodies.proofs.lines.unknown_in_line.Goals as goal

pub returns : goal.returns
returns c = λ g s w u.
    let op = op_of c.args.op.now in
    let types = unknown_types g.tree.types (line_types op) in
    let values = flat_map (unknown_row g) (line_uses g op) in
    let callee = unknown_callee g op in
    let threads = flat_map (unknown_value g) (thread_functions g op) in
    rows_joined types (values ++ (callee ++ threads)) c.unknown_types-ty.result c.earlier-2.result c.earlier-3.result
    (unknown_types_row (named_types c.args.scope.now.values.types.now) g.tree.types (tys_behind c.args.written.now) (line_types op) c.unknown_types-ty.result c.unknown_types-ty.ensures (sym s.values.types) w)
    (rows_joined values (callee ++ threads) c.unknown_uses-value.result c.earlier.result c.earlier-2.result
    (c.unknown_uses-value.ensures g s ∙ ap (λ us. earliest (flat_map (unknown_row g) (flat_map with_inner us))) u)
    (rows_joined callee threads c.unknown_callee-callee.result c.unknown_thread-thread.result c.earlier.result (c.unknown_callee-callee.ensures g s)
    (c.unknown_thread-thread.ensures g s) c.earlier.ensures)
    c.earlier-2.ensures)
    c.earlier-3.ensures
