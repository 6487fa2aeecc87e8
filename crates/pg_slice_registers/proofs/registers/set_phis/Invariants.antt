use Rattle.std.proofs.Common.{◌≡◌, ℕ, drop}
use Rattle.pg_precondition.specs.Nodes.{NodeList}
use Rattle.pg_slice_rules.specs.Known as along
use Rattle.pg_slice_registers.specs.SymbolicRegisterNodes.{AreSymbolicNodes, registers_by}
use Rattle.pg_slice_registers.proofs.registers.set_phis.Given as goal

abbrev pub invariant-loop-i : goal.invariant-loop-i
invariant-loop-i l = record {
  value : (ns : NodeList) →
      along.set_phis (registers_by ns l.registers) (drop l.i l.phis) (registers_by ns (drop l.i l.values)) ≡ along.set_phis (registers_by ns l.fn.registers) l.phis (registers_by ns l.values);
  is : (n : ℕ) → AreSymbolicNodes n l.fn.registers → AreSymbolicNodes n l.values → AreSymbolicNodes n l.registers;
}
