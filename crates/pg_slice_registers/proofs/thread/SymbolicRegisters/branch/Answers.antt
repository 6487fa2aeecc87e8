use Rattle.std.proofs.Common.{length}
use Rattle.pg_slice_registers.proofs.thread.SymbolicRegisters.branch.Goals as goal

pub returns-then-is_instance-clause-is : goal.returns-then-is_instance-clause-is
returns-then-is_instance-clause-is c = c.forget.ensures.is (length c.args.nodes.now) c.requires.symbolic_nodes
