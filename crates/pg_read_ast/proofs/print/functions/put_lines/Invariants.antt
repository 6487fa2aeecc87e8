use Rattle.std.proofs.Common.{map}
use Rattle.pg_read_ast.specs.Text.{line_text}
use Rattle.pg_read_ast.specs.Numbers.{line_at, behind_line}
use Rattle.pg_read_ast.specs.Views.{line_of, type_item_of}
use Rattle.pg_read_ast.proofs.Counting.{Going}
use Rattle.pg_read_ast.proofs.print.functions.put_lines.Given as goal

abbrev pub invariant-loop-each : goal.invariant-loop-each
invariant-loop-each l = Going line_of (behind_line (map type_item_of l.types)) (line_at (map type_item_of l.types)) line_text l.all l.each-index l.initial.out.items l.initial.next l.out.items l.next
