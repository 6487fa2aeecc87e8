use Rattle.std.proofs.Common.{◌≡◌, ◌++◌, take, flat_map, map}
use Rattle.pg_read_ast.specs.Text.{global_item_text}
use Rattle.pg_read_ast.specs.Views.{global_of}
use Rattle.pg_read_ast.proofs.print.modules.put_globals.Given as goal

abbrev pub invariant-loop-each : goal.invariant-loop-each
invariant-loop-each l = l.out.items ≡ l.initial.out.items ++ flat_map global_item_text (map global_of (take l.each-index l.all))
