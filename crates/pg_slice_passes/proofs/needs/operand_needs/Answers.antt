use Rattle.std.proofs.Common.{false, subst, sym}
use Rattle.std.specs.Prelude.{IfOk}
use Rattle.pg_precondition.specs.Nodes.{NodeList}
use Rattle.pg_slice_rules.specs.Known.{operand_symbolics}
use Rattle.pg_slice_checks.specs.Asks.{Adds}
use Rattle.pg_slice_checks.specs.Steps.{step_needs}
use Rattle.pg_slice_registers.specs.SymbolicRegisterNodes.{registers_by}
use Rattle.pg_slice_values.specs.SymbolicNodes.{Grew}
use Rattle.pg_run_trace.specs.declared.step.StepKind.{StepKind}
use Rattle.pg_slice_passes.specs.Given.{FitsKind}
use Rattle.pg_slice_passes.proofs.needs.operand_needs.Goals as goal

pub at_needs-requires-clause-access : goal.at_needs-requires-clause-access
at_needs-requires-clause-access c = let f = subst (λ (k : StepKind). FitsKind c.args.s.now.op.now k) c.in-Access.is c.requires.fits in f.0

pub branch_needs-requires-clause-fits : goal.branch_needs-requires-clause-fits
branch_needs-requires-clause-fits c = subst (λ (k : StepKind). FitsKind c.args.s.now.op.now k) c.in-Branch.is c.requires.fits

pub event_needs-requires-clause-kind : goal.event_needs-requires-clause-kind
event_needs-requires-clause-kind c = let f = subst (λ (k : StepKind). FitsKind c.args.s.now.op.now k) c.in-Event.is c.requires.fits in (c.in-Event.field-0, c.in-Event.is, f)

pub returns-in-Allocation-clause-adds : goal.returns-in-Allocation-clause-adds
returns-in-Allocation-clause-adds c =
    let o = c.args.s.now.op.now in
    let ss = λ (ns : NodeList). operand_symbolics c.args.s.now.p.now (registers_by ns c.args.s.now.registers.now) o in
    subst (λ (k : StepKind). IfOk c.size_needs.result (λ u. (ns : NodeList) → Grew c.size_needs.new.nodes ns
    → Adds ns (step_needs c.args.fixed (ss ns) o k) c.args.asked.now c.size_needs.new.asked)) (sym c.in-Allocation.is)
    (subst (λ (k : StepKind). IfOk c.size_needs.result (λ u. (ns : NodeList) → Grew c.size_needs.new.nodes ns
    → Adds ns (step_needs false (ss ns) o k) c.args.asked.now c.size_needs.new.asked)) c.in-Allocation.is c.size_needs.ensures.adds)

pub returns-in-Event-clause-adds : goal.returns-in-Event-clause-adds
returns-in-Event-clause-adds c =
    let o = c.args.s.now.op.now in
    let ss = λ (ns : NodeList). operand_symbolics c.args.s.now.p.now (registers_by ns c.args.s.now.registers.now) o in
    subst (λ (k : StepKind). IfOk c.event_needs.result (λ u. (ns : NodeList) → Grew c.event_needs.new.nodes ns
    → Adds ns (step_needs c.args.fixed (ss ns) o k) c.args.asked.now c.event_needs.new.asked)) (sym c.in-Event.is)
    (subst (λ (k : StepKind). IfOk c.event_needs.result (λ u. (ns : NodeList) → Grew c.event_needs.new.nodes ns
    → Adds ns (step_needs false (ss ns) o k) c.args.asked.now c.event_needs.new.asked)) c.in-Event.is c.event_needs.ensures.adds)
