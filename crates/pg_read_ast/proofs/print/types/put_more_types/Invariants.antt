use Rattle.std.proofs.Common.{◌≡◌, ◌++◌, take, flat_map, map, codes}
use Rattle.pg_read_ast.specs.Text.{type_text}
use Rattle.pg_read_ast.specs.Views.{ty_of}
use Rattle.pg_read_ast.proofs.print.types.put_more_types.Given as goal

abbrev pub invariant-loop-each : goal.invariant-loop-each
invariant-loop-each l = l.out.items ≡ l.initial.out.items ++ flat_map (λ t. codes ", " ++ type_text t) (map ty_of (take l.each-index l.all))
