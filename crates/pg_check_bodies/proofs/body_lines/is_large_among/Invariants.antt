use Rattle.std.proofs.Common.{◌≡◌, map, drop}
use Rattle.std.specs.List.{list_any}
use Rattle.pg_read_ast.specs.Views.{line_of}
use Rattle.pg_check_types.specs.NumberedTypes.{named_types}
use Rattle.pg_check_bodies.specs.BodyParts.{is_large_line}
use Rattle.pg_check_bodies.proofs.body_lines.is_large_among.Given as goal

abbrev pub invariant-loop-line : goal.invariant-loop-line
invariant-loop-line l = list_any (is_large_line (named_types l.types)) (map line_of l.lines) ≡ list_any (is_large_line (named_types l.types)) (map line_of (drop l.line-index l.lines))
