use Rattle.std.proofs.Common.{◌∷◌, [], ◌++◌, List, length, slice_index_or, ap, ◌∙◌}
use Rattle.pg_ir.specs.declared.value.Value.TheVariants.{Register}
use Rattle.pg_slice_rules.specs.SymbolicValues.{Symbolic, symbolic_of}
use Rattle.pg_slice_values.proofs.GrowingNodes.{grew_then}
use Rattle.pg_slice_registers.specs.SymbolicRegisterNodes.{registers_by}
use Rattle.pg_slice_registers.proofs.KeptValues.{registers_kept}
use Rattle.pg_slice_registers.proofs.GatheredLists.{one_pushed}
use Rattle.pg_slice_registers.proofs.operands.values.Goals as goal

pub loop-arg-preserved : goal.loop-arg-preserved
loop-arg-preserved c =
    let first = c.args.nodes.now in
    let old = c.loop-arg.nodes in
    let i = c.loop-arg.arg-index in
    let xs = c.args.args.now in
    let p = c.args.p.now in
    record {
      grew = grew_then first old c.push_optional.new.nodes c.loop-arg.invariant.grew c.push_optional.ensures.grew;
      is = c.in_ok-push_optional.ensures.is;
      value = one_pushed (symbolic_of p (registers_by first c.args.registers.now)) xs i (Register 0) (registers_by old c.loop-arg.symbolic_nodes.items) _ _ c.loop-arg-test.true
          (c.in_ok-push_optional.ensures.value ∙ ap (λ (rs : List Symbolic). registers_by old c.loop-arg.symbolic_nodes.items ++ symbolic_of p rs (slice_index_or xs i (Register 0)) ∷ [])
          (registers_kept first old c.args.registers.now c.loop-arg.invariant.grew c.requires.symbolic_nodes))
          c.loop-arg.invariant.value;
    }
