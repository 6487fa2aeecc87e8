use Rattle.std.proofs.Common.{length}
use Rattle.pg_slice_registers.specs.SymbolicRegisterNodes.{registers_by}
use Rattle.pg_slice_registers.proofs.KeptValues.{registers_kept, symbolic_nodes_kept}
use Rattle.pg_slice_registers.proofs.operands.result.Goals as goal

pub returns-clause-is : goal.returns-clause-is
returns-clause-is c = c.with_bounds.ensures.is (length c.operation.new.nodes)
    (symbolic_nodes_kept c.args.nodes.now c.operation.new.nodes c.args.operands.now c.operation.ensures.grew c.requires.symbolic_nodes) c.in_ok-s.ensures.is

pub returns-clause-value : goal.returns-clause-value
returns-clause-value c =
    let old = c.args.nodes.now in
    c.with_bounds.ensures.value c.operation.new.nodes (registers_by old c.args.operands.now) c.in_ok-s.ensures.value
    (registers_kept old c.operation.new.nodes c.args.operands.now c.operation.ensures.grew c.requires.symbolic_nodes) c.requires.count
