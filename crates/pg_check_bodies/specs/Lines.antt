-- What a line is refused for, kind by kind.
use Rattle.std.specs.Prelude.{List, ◌++◌}
use Rattle.std.specs.List.{flat_map}
use Rattle.pg_read_lex.specs.declared.token.Span.{Span}
use Rattle.pg_read_ast.specs.Syntax.{Op, Line}
use Rattle.pg_read_ast.specs.Numbers.{gives}
use Rattle.pg_check_rules.specs.Written.{op_demands}
use Rattle.pg_check_rules.specs.TypeConditions.{unknown_types, wrong_types, unmet}
use Rattle.pg_check_rules.specs.ValueConditions.{Scope, unknown_value, wrong_use}
use Rattle.pg_check_rules.specs.CallConditions.{call_demands, thread_functions, wrong_thread, unsupported_thread}
use Rattle.pg_check_rules.specs.LineConditions.{line_types, line_uses, unknown_callee, unsupported_callee, wrong_call, wrong_return, wrong_path, wrong_name}
use Rattle.pg_check_lines.specs.Uses.{unknown_row, function_row}

abbrev pub unknown_in_line : Scope → Op → List Span
unknown_in_line g op =
    unknown_types g.tree.types (line_types op)
    ++ (flat_map (unknown_row g) (line_uses g op)
    ++ (unknown_callee g op
    ++ flat_map (unknown_value g) (thread_functions g op)))

abbrev pub unsupported_in_line : Scope → Op → List Span
unsupported_in_line g op =
    flat_map (function_row g) (line_uses g op)
    ++ (unsupported_callee g op
    ++ flat_map (unsupported_thread g) (thread_functions g op))

-- the rows of wrong types that speak of neither types nor values that are written
abbrev pub wrong_otherwise : Scope → Line → List Span
wrong_otherwise g l =
    flat_map (wrong_thread g) (thread_functions g l.op)
    ++ (wrong_return g l.op
    ++ (wrong_path g l.op
    ++ wrong_name (gives g.tree.types l.op) l.name))

abbrev pub wrong_in_line : Scope → Line → List Span
wrong_in_line g l =
    wrong_types g.tree.types (line_types l.op)
    ++ (flat_map (unmet g.tree.types) (op_demands g.tree.types g.result l.op ++ call_demands g l.op)
    ++ (flat_map (wrong_use g) (line_uses g l.op)
    ++ (wrong_call g l.op
    ++ wrong_otherwise g l)))
