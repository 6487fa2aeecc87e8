use Rattle.std.proofs.Common.{◌≡◌, ◌++◌, take, flat_map, map, codes}
use Rattle.pg_read_ast.specs.Text.{dparam_text}
use Rattle.pg_read_ast.specs.Views.{dparam_of}
use Rattle.pg_read_ast.proofs.print.items.put_more_dparams.Given as goal

abbrev pub invariant-loop-each : goal.invariant-loop-each
invariant-loop-each l = l.out.items ≡ l.initial.out.items ++ flat_map (λ p. codes ", " ++ dparam_text p) (map dparam_of (take l.each-index l.all))
