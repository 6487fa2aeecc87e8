use Rattle.std.proofs.Common.{◌∷◌, [], ◌++◌, List, Option, ap, ◌∙◌}
use Rattle.pg_ir.specs.declared.instr.Instr.{Instr}
use Rattle.pg_ir.specs.declared.value.Value.{Value}
use Rattle.pg_slice_rules.specs.SymbolicValues.{Symbolic}
use Rattle.pg_slice_rules.specs.Known.{optional_symbolic, phi_symbolic}
use Rattle.pg_slice_values.proofs.GrowingNodes.{grew_then}
use Rattle.pg_slice_registers.specs.SymbolicRegisterNodes.{registers_by}
use Rattle.pg_slice_registers.proofs.KeptValues.{registers_kept}
use Rattle.pg_slice_registers.proofs.GatheredLists.{one_pushed}
use Rattle.pg_slice_registers.proofs.edges.phi_symbolic_nodes.Goals as goal

pub loop-i-preserved : goal.loop-i-preserved
loop-i-preserved c =
    let first = c.args.nodes.now in
    let old = c.loop-i.nodes in
    let i = c.loop-i.i in
    let xs = c.args.phis.now in
    let p = c.args.p.now in
    let f = phi_symbolic p (registers_by first c.args.registers.now) c.args.from in
    let so_far = registers_by old c.loop-i.symbolic_nodes.items in
    record {
      grew = grew_then first old c.push_optional.new.nodes c.loop-i.invariant.grew c.push_optional.ensures.grew;
      is = c.in_ok-push_optional.ensures.is;
      value = one_pushed f xs i c.index-phis-i.result so_far _ _ c.loop-i-test.true
          (c.in_ok-push_optional.ensures.value
          ∙ ap (λ (v : Option Value). so_far ++ optional_symbolic p (registers_by old c.args.registers.now) v ∷ []) c.phi_operand-value.ensures
          ∙ ap (λ (rs : List Symbolic). so_far ++ phi_symbolic p rs c.args.from c.index-phis-i.result ∷ []) (registers_kept first old c.args.registers.now c.loop-i.invariant.grew c.requires.symbolic_nodes)
          ∙ ap (λ (x : Instr). so_far ++ f x ∷ []) c.index-phis-i.is)
          c.loop-i.invariant.value;
    }
