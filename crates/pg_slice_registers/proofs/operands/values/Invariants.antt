use Rattle.std.proofs.Common.{◌≡◌, ◌++◌, length, map, drop}
use Rattle.pg_slice_rules.specs.SymbolicValues.{symbolic_of}
use Rattle.pg_slice_values.specs.SymbolicNodes.{Grew}
use Rattle.pg_slice_registers.specs.SymbolicRegisterNodes.{AreSymbolicNodes, registers_by}
use Rattle.pg_slice_registers.proofs.operands.values.Given as goal

abbrev pub invariant-loop-arg : goal.invariant-loop-arg
invariant-loop-arg l = record {
  grew : Grew l.fn.nodes l.nodes;
  is : AreSymbolicNodes (length l.nodes) l.symbolic_nodes.items;
  value : registers_by l.nodes l.symbolic_nodes.items ++ map (symbolic_of l.p (registers_by l.fn.nodes l.registers)) (drop l.arg-index l.args)
      ≡ map (symbolic_of l.p (registers_by l.fn.nodes l.registers)) l.args;
}
