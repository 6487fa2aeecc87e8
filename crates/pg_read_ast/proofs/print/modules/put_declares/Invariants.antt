use Rattle.std.proofs.Common.{◌≡◌, ◌++◌, take, flat_map, map}
use Rattle.pg_read_ast.specs.Text.{declare_text}
use Rattle.pg_read_ast.specs.Views.{declare_of}
use Rattle.pg_read_ast.proofs.print.modules.put_declares.Given as goal

abbrev pub invariant-loop-each : goal.invariant-loop-each
invariant-loop-each l = l.out.items ≡ l.initial.out.items ++ flat_map declare_text (map declare_of (take l.each-index l.all))
