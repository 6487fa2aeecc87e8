use Rattle.std.proofs.Common.{codes, ◌++◌}
use Rattle.pg_read_ast.specs.Text.{param_text}
use Rattle.pg_read_ast.specs.Numbers.{param_at, behind_param}
use Rattle.pg_read_ast.specs.Views.{param_of}
use Rattle.pg_read_ast.proofs.Counting.{Going}
use Rattle.pg_read_ast.proofs.print.functions.put_more_params.Given as goal

abbrev pub invariant-loop-each : goal.invariant-loop-each
invariant-loop-each l = Going param_of behind_param param_at (λ p. codes ", " ++ param_text p) l.all l.each-index l.initial.out.items l.initial.next l.out.items l.next
