use Rattle.std.proofs.Common.{◌++◌, ap, ◌∙◌}
use Rattle.std.specs.List.{flat_map}
use Rattle.pg_read_ast.specs.Views.{op_of}
use Rattle.pg_check_rules.specs.Written.{with_inner}
use Rattle.pg_check_rules.specs.CallConditions.{thread_functions, unsupported_thread}
use Rattle.pg_check_rules.specs.LineConditions.{line_uses, unsupported_callee}
use Rattle.pg_check_rules.specs.Earliest.{earliest}
use Rattle.pg_check_lines.specs.Uses.{function_row}
use Rattle.pg_check_bodies.proofs.LineRows.{rows_joined}
use Rattle.pg_check_bodies.proofs.lines.unsupported_in_line.Goals as goal

pub returns : goal.returns
returns c = λ g s u.
    let op = op_of c.args.op.now in
    let values = flat_map (function_row g) (line_uses g op) in
    let callee = unsupported_callee g op in
    let threads = flat_map (unsupported_thread g) (thread_functions g op) in
    rows_joined values (callee ++ threads) c.function_uses-value.result c.earlier.result c.earlier-2.result
    (c.function_uses-value.ensures g s ∙ ap (λ us. earliest (flat_map (function_row g) (flat_map with_inner us))) u)
    (rows_joined callee threads c.unsupported_callee-callee.result c.unsupported_thread-thread.result c.earlier.result (c.unsupported_callee-callee.ensures g s)
    (c.unsupported_thread-thread.ensures g s) c.earlier.ensures)
    c.earlier-2.ensures
