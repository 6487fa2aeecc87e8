use Rattle.std.proofs.Common.{◌≡◌, ◌∙◌, ap, sym, arith, List, subst}
use Rattle.pg_slice_values.specs.declared.symbolic_node.SymbolicNode.{SymbolicNode}
use Rattle.pg_slice_registers.specs.SymbolicRegisterNodes.{AreSymbolicNodes, marked, registers_by}
use Rattle.pg_slice_registers.proofs.SetRegisters.{all_done, forgotten, forgotten_by, forgotten_symbolic_nodes, one_more}
use Rattle.pg_slice_registers.proofs.registers.forget.Goals as goal

pub loop-i-preserved : goal.loop-i-preserved
loop-i-preserved c = one_more (marked c.args.sets.now) c.args.by c.loop-i.i c.loop-i.registers _ _ (omega (arith, c.loop-i.auto.registers)) c.unless_marked.ensures ∙ c.loop-i.invariant

pub returns-clause-value : goal.returns-clause-value
returns-clause-value c ns =
    let e : c.loop-i.registers ≡ forgotten 0 (marked c.args.sets.now) c.args.by c.args.registers.now =
    sym (all_done c.loop-i.i (marked c.args.sets.now) c.args.by c.loop-i.registers (omega (arith, c.loop-i.auto.registers))) ∙ c.loop-i.invariant in
    ap (registers_by ns) e ∙ forgotten_by ns 0 (marked c.args.sets.now) c.args.by c.args.registers.now

pub returns-clause-is : goal.returns-clause-is
returns-clause-is c n a =
    let e : c.loop-i.registers ≡ forgotten 0 (marked c.args.sets.now) c.args.by c.args.registers.now =
    sym (all_done c.loop-i.i (marked c.args.sets.now) c.args.by c.loop-i.registers (omega (arith, c.loop-i.auto.registers))) ∙ c.loop-i.invariant in
    subst (λ (l : List SymbolicNode). AreSymbolicNodes n l) (sym e) (forgotten_symbolic_nodes n 0 (marked c.args.sets.now) c.args.by c.args.registers.now a)
