use Rattle.std.proofs.Common.{◌≡◌, ◌++◌, replicate}
use Rattle.pg_slice_registers.proofs.entered.push_each.Given as goal

abbrev pub invariant-loop : goal.invariant-loop
invariant-loop l = l.symbolic_nodes.items ≡ l.fn.symbolic_nodes.items ++ replicate l.counter l.s
