use Rattle.std.proofs.Common.{◌∙◌, sym, arith, length, ◌<◌}
use Rattle.pg_slice_registers.specs.SymbolicRegisterNodes.{registers_by}
use Rattle.pg_slice_registers.proofs.SetRegisters.{one_phi, phis_done, symbolic_node_at}
use Rattle.pg_slice_registers.proofs.registers.set_phis.Goals as goal

pub loop-i-preserved : goal.loop-i-preserved
loop-i-preserved c = record {
  value = λ ns. one_phi ns c.loop-i.registers c.set.new.registers c.args.phis.now c.args.values.now c.loop-i.i c.index-phis-i.result _ c.loop-i-test.true c.requires (c.set.ensures.value ns)
      ∙ c.loop-i.invariant.value ns;
  is = λ n a b. c.set.ensures.is n (c.loop-i.invariant.is n a b) (symbolic_node_at n c.args.values.now c.loop-i.i _ b (let h : c.loop-i.i < length c.args.values.now = omega (arith, c.requires) in h));
}

pub returns-clause-value : goal.returns-clause-value
returns-clause-value c ns = sym (phis_done (registers_by ns c.loop-i.registers) _ c.args.phis.now c.loop-i.i c.loop-i-test.false) ∙ c.loop-i.invariant.value ns
