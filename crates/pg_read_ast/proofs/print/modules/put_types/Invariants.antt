use Rattle.std.proofs.Common.{◌≡◌, ◌++◌, take, flat_map, map}
use Rattle.pg_read_ast.specs.Text.{type_item_text}
use Rattle.pg_read_ast.specs.Views.{type_item_of}
use Rattle.pg_read_ast.proofs.print.modules.put_types.Given as goal

abbrev pub invariant-loop-each : goal.invariant-loop-each
invariant-loop-each l = l.out.items ≡ l.initial.out.items ++ flat_map type_item_text (map type_item_of (take l.each-index l.all))
