use Rattle.std.proofs.Common.{List, ◌∷◌, [], subst, sym}
use Rattle.pg_slice_rules.specs.Known.{operand_at, operand_symbolics}
use Rattle.pg_slice_rules.specs.Rules.{Need, address_index}
use Rattle.pg_slice_rules.specs.SymbolicValues.{Symbolic}
use Rattle.pg_slice_checks.specs.Asks.{Adds}
use Rattle.pg_slice_checks.specs.Steps.{AreEnough, step_needs}
use Rattle.pg_slice_registers.specs.SymbolicRegisterNodes.{registers_by}
use Rattle.pg_slice_values.specs.SymbolicNodes.{symbolic_by}
use Rattle.pg_run_trace.specs.declared.step.StepKind.{StepKind}
use Rattle.pg_slice_passes.proofs.AddedNodes.{is_later, later}
use Rattle.pg_slice_passes.proofs.OperandNeeds.{access_enough, access_same}
use Rattle.pg_slice_passes.proofs.needs.at_needs.Goals as goal

pub address-requires-clause-access : goal.address-requires-clause-access
address-requires-clause-access c = c.requires.access

pub step_needs-requires : goal.step_needs-requires
step_needs-requires c = subst (λ (k : StepKind). AreEnough c.args.s.now.op.now k 2) (sym c.requires.kind.1) (access_enough c.args.s.now.op.now c.requires.kind.0)

pub returns-clause-adds : goal.returns-clause-adds
returns-clause-adds c = λ ns g.
    let p = c.args.s.now.p.now in
    let o = c.args.s.now.op.now in
    let s = c.in_ok-at.at in
    let regs = c.args.s.now.registers.now in
    let first = c.args.nodes.now in
    let second = c.address.new.nodes in
    let k = c.requires.kind in
    let is = is_later second ns s g c.in_ok-at.ensures.is in
    let e = later (λ (rs : List Symbolic). operand_at p rs o (address_index o)) first second ns s regs c.address.ensures.grew g c.in_ok-at.ensures.is c.requires.symbolic_nodes c.in_ok-at.ensures.value in
    subst (λ (y : StepKind). Adds ns (step_needs c.args.fixed (operand_symbolics p (registers_by ns regs) o) o y) c.args.asked.now c.step_needs.new.asked) (sym k.1)
    (subst (λ (needs : List Need). Adds ns needs c.args.asked.now c.step_needs.new.asked) (access_same c.args.fixed (symbolic_by ns s) (operand_symbolics p (registers_by ns regs) o) o k.0 e)
    (subst (λ (y : StepKind). Adds ns (step_needs c.args.fixed (symbolic_by ns s ∷ symbolic_by ns s ∷ []) o y) c.args.asked.now c.step_needs.new.asked) k.1
    (c.in_ok-step_needs.ensures ns (is, (is, tt)))))
