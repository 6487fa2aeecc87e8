use Rattle.std.proofs.Common.{◌≡◌, ◌++◌, take, flat_map, map}
use Rattle.pg_read_ast.specs.Text.{define_text}
use Rattle.pg_read_ast.specs.Numbers.{numbered}
use Rattle.pg_read_ast.specs.Views.{define_of, type_item_of}
use Rattle.pg_read_ast.proofs.print.modules.put_functions.Given as goal

abbrev pub invariant-loop-each : goal.invariant-loop-each
invariant-loop-each l = l.out.items ≡ l.initial.out.items ++ flat_map define_text (map (numbered (map type_item_of l.types)) (map define_of (take l.each-index l.all)))
