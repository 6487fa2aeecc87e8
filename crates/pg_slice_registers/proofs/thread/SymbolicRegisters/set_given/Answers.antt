use Rattle.std.proofs.Common.{Option, IfSome, subst}
use Rattle.pg_slice_values.specs.declared.symbolic_node.SymbolicNode.{SymbolicNode}
use Rattle.pg_slice_values.specs.SymbolicNodes.{IsSymbolicNode}
use Rattle.pg_slice_registers.proofs.thread.SymbolicRegisters.set_given.Goals as goal

pub returns-in-Some-clause-is : goal.returns-in-Some-clause-is
returns-in-Some-clause-is c n a h = c.set.ensures.is n a (subst (λ (o : Option SymbolicNode). IfSome o (IsSymbolicNode n)) c.in-Some.is h)
