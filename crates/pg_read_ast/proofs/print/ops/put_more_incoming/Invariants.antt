use Rattle.std.proofs.Common.{◌≡◌, ◌++◌, take, flat_map, map}
use Rattle.pg_read_ast.specs.Text.{more_incoming_text}
use Rattle.pg_read_ast.specs.Views.{incoming_of}
use Rattle.pg_read_ast.proofs.print.ops.put_more_incoming.Given as goal

abbrev pub invariant-loop-each : goal.invariant-loop-each
invariant-loop-each l = l.out.items ≡ l.initial.out.items ++ flat_map more_incoming_text (map incoming_of (take l.each-index l.all))
