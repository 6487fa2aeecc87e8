use Rattle.std.proofs.Common.{◌≡◌, ◌++◌, take, flat_map, map}
use Rattle.pg_read_ast.specs.Text.{more_const_text}
use Rattle.pg_read_ast.specs.Views.{typed_const_of}
use Rattle.pg_read_ast.proofs.print.values.+print_constants.Given as goal

abbrev pub invariant-put_consts-loop-each : goal.invariant-put_consts-loop-each
invariant-put_consts-loop-each l = l.out.items ≡ l.initial.out.items ++ flat_map more_const_text (map typed_const_of (take l.each-index l.more))
