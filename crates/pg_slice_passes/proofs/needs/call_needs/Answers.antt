use Rattle.std.proofs.Common.{ℕ, List, ◌∷◌, [], false, subst, sym}
use Rattle.pg_slice_rules.specs.Known.{operand_at, operand_symbolics}
use Rattle.pg_slice_rules.specs.Rules.{Need}
use Rattle.pg_slice_rules.specs.SymbolicValues.{Symbolic}
use Rattle.pg_slice_checks.specs.Asks.{Adds}
use Rattle.pg_slice_checks.specs.Steps.{AreEnough, step_needs}
use Rattle.pg_slice_registers.specs.SymbolicRegisterNodes.{registers_by}
use Rattle.pg_slice_registers.proofs.KeptValues.{symbolic_nodes_kept}
use Rattle.pg_slice_values.specs.SymbolicNodes.{symbolic_by}
use Rattle.pg_slice_values.proofs.GrowingNodes.{grew_then}
use Rattle.pg_run_trace.specs.declared.step.StepKind.{StepKind}
use Rattle.pg_slice_passes.proofs.AddedNodes.{is_later, later}
use Rattle.pg_slice_registers.proofs.DefinedSteps.{call_asked}
use Rattle.pg_slice_passes.proofs.OperandNeeds.{call_enough, event_asks_same}
use Rattle.pg_slice_passes.proofs.needs.call_needs.Goals as goal

pub operand-requires-clause-asked : goal.operand-requires-clause-asked
operand-requires-clause-asked c = call_asked c.args.s.now.op.now 0 c.requires.call

pub operand-requires-2-clause-asked : goal.operand-requires-2-clause-asked
operand-requires-2-clause-asked c = call_asked c.args.s.now.op.now 1 c.requires.call

pub operand-requires-3-clause-asked : goal.operand-requires-3-clause-asked
operand-requires-3-clause-asked c = call_asked c.args.s.now.op.now 2 c.requires.call

pub operand-requires-2-clause-symbolic_nodes : goal.operand-requires-2-clause-symbolic_nodes
operand-requires-2-clause-symbolic_nodes c = symbolic_nodes_kept c.args.nodes.now c.operand.new.nodes c.args.s.now.registers.now c.operand.ensures.grew c.requires.symbolic_nodes

pub operand-requires-3-clause-symbolic_nodes : goal.operand-requires-3-clause-symbolic_nodes
operand-requires-3-clause-symbolic_nodes c =
    symbolic_nodes_kept c.args.nodes.now c.operand-2.new.nodes c.args.s.now.registers.now
    (grew_then c.args.nodes.now c.operand.new.nodes c.operand-2.new.nodes c.operand.ensures.grew c.operand-2.ensures.grew) c.requires.symbolic_nodes

pub step_needs-requires : goal.step_needs-requires
step_needs-requires c = subst (λ (k : StepKind). AreEnough c.args.s.now.op.now k 3) (sym c.requires.kind.1) (call_enough c.args.s.now.op.now c.requires.kind.0)

pub returns-clause-adds : goal.returns-clause-adds
returns-clause-adds c = λ ns g.
    let p = c.args.s.now.p.now in
    let o = c.args.s.now.op.now in
    let regs = c.args.s.now.registers.now in
    let n0 = c.args.nodes.now in
    let n1 = c.operand.new.nodes in
    let n2 = c.operand-2.new.nodes in
    let n3 = c.operand-3.new.nodes in
    let g1 = c.operand.ensures.grew in
    let g2 = c.operand-2.ensures.grew in
    let g3 = c.operand-3.ensures.grew in
    let to3 = g in
    let to2 = grew_then n2 n3 ns g3 g in
    let to1 = grew_then n1 n2 ns g2 to2 in
    let k = c.requires.kind in
    let a = c.in_ok-first.first in
    let b = c.in_ok-second.second in
    let d = c.in_ok-third.third in
    let f = λ (m : ℕ) (rs : List Symbolic). operand_at p rs o m in
    let e0 = later (f 0) n0 n1 ns a regs g1 to1 c.in_ok-first.ensures.is c.requires.symbolic_nodes c.in_ok-first.ensures.value in
    let r1 = symbolic_nodes_kept n0 n1 regs g1 c.requires.symbolic_nodes in
    let e1 = later (f 1) n1 n2 ns b regs g2 to2 c.in_ok-second.ensures.is r1 c.in_ok-second.ensures.value in
    let r2 = symbolic_nodes_kept n1 n2 regs g2 r1 in
    let e2 = later (f 2) n2 n3 ns d regs g3 to3 c.in_ok-third.ensures.is r2 c.in_ok-third.ensures.value in
    let ss = operand_symbolics p (registers_by ns regs) o in
    let xs = symbolic_by ns a ∷ symbolic_by ns b ∷ symbolic_by ns d ∷ [] in
    subst (λ (y : StepKind). Adds ns (step_needs false ss o y) c.args.asked.now c.step_needs.new.asked) (sym k.1)
    (subst (λ (needs : List Need). Adds ns needs c.args.asked.now c.step_needs.new.asked) (event_asks_same xs ss e0 e1 e2 o k.0)
    (subst (λ (y : StepKind). Adds ns (step_needs false xs o y) c.args.asked.now c.step_needs.new.asked) k.1
    (c.in_ok-step_needs.ensures ns (is_later n1 ns a to1 c.in_ok-first.ensures.is, (is_later n2 ns b to2 c.in_ok-second.ensures.is, (is_later n3 ns d to3 c.in_ok-third.ensures.is, tt))))))
