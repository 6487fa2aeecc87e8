use Rattle.pg_slice_registers.proofs.SetRegisters.{symbolic_node_got}
use Rattle.pg_slice_registers.proofs.operands.with_bounds.Goals as goal

pub returns-in-Some-clause-is : goal.returns-in-Some-clause-is
returns-in-Some-clause-is c n a h = c.moved.ensures.is n (symbolic_node_got n c.args.operands.now 0 c.in-Some.base.now a c.in-Some.ensures.value) h
