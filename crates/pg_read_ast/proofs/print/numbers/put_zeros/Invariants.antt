use Rattle.std.proofs.Common.{◌≡◌, ◌++◌, replicate, ℕ}
use Rattle.pg_read_ast.proofs.print.numbers.put_zeros.Given as goal

abbrev pub invariant-loop : goal.invariant-loop
invariant-loop l = l.out.items ≡ l.initial.out.items ++ replicate {A = ℕ} l.counter 48
