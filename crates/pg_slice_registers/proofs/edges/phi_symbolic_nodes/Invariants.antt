use Rattle.std.proofs.Common.{◌≡◌, ◌++◌, length, map, drop}
use Rattle.pg_slice_rules.specs.Known.{phi_symbolic}
use Rattle.pg_slice_values.specs.SymbolicNodes.{Grew}
use Rattle.pg_slice_registers.specs.SymbolicRegisterNodes.{AreSymbolicNodes, registers_by}
use Rattle.pg_slice_registers.proofs.edges.phi_symbolic_nodes.Given as goal

abbrev pub invariant-loop-i : goal.invariant-loop-i
invariant-loop-i l = record {
  grew : Grew l.fn.nodes l.nodes;
  is : AreSymbolicNodes (length l.nodes) l.symbolic_nodes.items;
  value : registers_by l.nodes l.symbolic_nodes.items ++ map (phi_symbolic l.p (registers_by l.fn.nodes l.registers) l.from) (drop l.i l.phis)
      ≡ map (phi_symbolic l.p (registers_by l.fn.nodes l.registers) l.from) l.phis;
}
