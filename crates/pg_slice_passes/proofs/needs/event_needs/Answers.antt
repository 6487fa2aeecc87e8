use Rattle.std.proofs.Common.{List, false, subst, sym, ◌∙◌}
use Rattle.pg_slice_rules.specs.Known.{operand_symbolics}
use Rattle.pg_slice_rules.specs.Rules.{Need}
use Rattle.pg_slice_checks.specs.Asks.{Adds}
use Rattle.pg_slice_checks.specs.Steps.{step_needs}
use Rattle.pg_slice_checks.proofs.OneNeedMore.{adds_none}
use Rattle.pg_slice_registers.specs.SymbolicRegisterNodes.{registers_by}
use Rattle.pg_run_trace.specs.declared.step.StepKind.{StepKind}
use Rattle.pg_slice_passes.proofs.OperandNeeds.{is_call, no_call}
use Rattle.pg_slice_passes.proofs.needs.event_needs.Goals as goal

pub call_needs-requires-clause-call : goal.call_needs-requires-clause-call
call_needs-requires-clause-call c = is_call c.args.s.now.op.now (sym c.is_call.ensures ∙ c.if-is_call.true)

pub call_needs-requires-clause-kind : goal.call_needs-requires-clause-kind
call_needs-requires-clause-kind c = let k = c.requires.kind in (k.0, k.1)

pub returns-else-is_call-clause-adds : goal.returns-else-is_call-clause-adds
returns-else-is_call-clause-adds c = λ ns g.
    let ss = operand_symbolics c.args.s.now.p.now (registers_by ns c.args.s.now.registers.now) c.args.s.now.op.now in
    let k = c.requires.kind in
    subst (λ (y : StepKind). Adds ns (step_needs false ss c.args.s.now.op.now y) c.args.asked.now c.args.asked.now) (sym k.1)
    (subst (λ (needs : List Need). Adds ns needs c.args.asked.now c.args.asked.now) (sym (no_call false ss c.args.s.now.op.now k.0 (sym c.is_call.ensures ∙ c.if-is_call.false) k.2))
    (adds_none ns c.args.asked.now))
