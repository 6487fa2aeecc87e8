use Rattle.std.proofs.Common.{◌≡◌, ◌++◌, take, flat_map, map}
use Rattle.pg_read_ast.specs.Text.{case_text}
use Rattle.pg_read_ast.specs.Views.{case_of}
use Rattle.pg_read_ast.proofs.print.ops.put_cases.Given as goal

abbrev pub invariant-loop-each : goal.invariant-loop-each
invariant-loop-each l = l.out.items ≡ l.initial.out.items ++ flat_map case_text (map case_of (take l.each-index l.all))
