use Rattle.std.proofs.Common.{◌≡◌, ◌++◌, take, flat_map, map}
use Rattle.pg_read_ast.specs.Text.{more_typed_text}
use Rattle.pg_read_ast.specs.Views.{typed_of}
use Rattle.pg_read_ast.proofs.print.values.+print_values.Given as goal

abbrev pub invariant-put_more_typed-loop-each : goal.invariant-put_more_typed-loop-each
invariant-put_more_typed-loop-each l = l.out.items ≡ l.initial.out.items ++ flat_map more_typed_text (map typed_of (take l.each-index l.all))
