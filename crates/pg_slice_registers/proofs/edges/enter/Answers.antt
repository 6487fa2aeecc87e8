use Rattle.std.proofs.Common.{List, length, map, ap, sym, ◌∙◌, subst}
use Rattle.std.proofs.lemmas.List.{length-map}
use Rattle.pg_ir.specs.declared.instr.Instr.{Instr}
use Rattle.pg_slice_rules.specs.SymbolicValues.{Symbolic}
use Rattle.pg_slice_rules.specs.Known.{phi_symbolic, set_phis}
use Rattle.pg_slice_values.specs.declared.symbolic_node.SymbolicNode.{SymbolicNode}
use Rattle.pg_slice_registers.specs.SymbolicRegisterNodes.{AreSymbolicNodes, registers_by}
use Rattle.pg_slice_registers.proofs.KeptValues.{registers_kept, symbolic_nodes_kept}
use Rattle.pg_slice_registers.proofs.edges.enter.Goals as goal

pub set_phis-requires : goal.set_phis-requires
set_phis-requires c =
    ap length c.as_slice.ensures.value
    ∙ sym (length-map c.in_ok-symbolic_nodes.symbolic_nodes.items _)
    ∙ ap length c.in_ok-symbolic_nodes.ensures.value
    ∙ length-map c.phis-phis.result.now _

pub returns-clause-is : goal.returns-clause-is
returns-clause-is c =
    let new = c.phi_symbolic_nodes.new.nodes in
    c.set_phis.ensures.is (length new) (symbolic_nodes_kept c.args.nodes.now new c.args.registers.now c.phi_symbolic_nodes.ensures.grew c.requires.symbolic_nodes)
    (subst (λ (l : List SymbolicNode). AreSymbolicNodes (length new) l) (sym c.as_slice.ensures.value) c.in_ok-symbolic_nodes.ensures.is)

pub returns-clause-value : goal.returns-clause-value
returns-clause-value c =
    let old = c.args.nodes.now in
    let new = c.phi_symbolic_nodes.new.nodes in
    let p = c.args.p.now in
    let from = c.args.from.0 in
    let rs = registers_by old c.args.registers.now in
    c.set_phis.ensures.value new
    ∙ ap (λ (zs : List Symbolic). set_phis zs c.phis-phis.result.now (registers_by new c.as_slice.result.now))
    (registers_kept old new c.args.registers.now c.phi_symbolic_nodes.ensures.grew c.requires.symbolic_nodes)
    ∙ ap (λ (zs : List Symbolic). set_phis rs c.phis-phis.result.now zs) (ap (registers_by new) c.as_slice.ensures.value ∙ c.in_ok-symbolic_nodes.ensures.value)
    ∙ ap (λ (xs : List Instr). set_phis rs xs (map (phi_symbolic p rs from) xs)) c.phis-phis.ensures.phis
