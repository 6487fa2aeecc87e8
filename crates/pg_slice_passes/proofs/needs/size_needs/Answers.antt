use Rattle.std.proofs.Common.{List, ◌∷◌, [], subst, sym, ◌∙◌, false, arith}
use Rattle.pg_slice_rules.specs.Known.{operand_at, operand_symbolics}
use Rattle.pg_slice_rules.specs.Rules.{Need}
use Rattle.pg_slice_rules.specs.SymbolicValues.{Symbolic}
use Rattle.pg_slice_checks.specs.Asks.{Adds}
use Rattle.pg_slice_checks.specs.Steps.{AreEnough, step_needs}
use Rattle.pg_slice_checks.proofs.OneNeedMore.{adds_none}
use Rattle.pg_slice_registers.specs.SymbolicRegisterNodes.{registers_by}
use Rattle.pg_slice_values.specs.SymbolicNodes.{symbolic_by}
use Rattle.pg_run_trace.specs.declared.step.StepKind.{StepKind}
use Rattle.pg_slice_passes.proofs.AddedNodes.{is_later, later}
use Rattle.pg_slice_passes.proofs.OperandNeeds.{malloc_asked, no_size, size_same}
use Rattle.pg_slice_passes.proofs.needs.size_needs.Goals as goal

pub returns-then-not-is_malloc-clause-adds : goal.returns-then-not-is_malloc-clause-adds
returns-then-not-is_malloc-clause-adds c = λ ns g.
    let ss = operand_symbolics c.args.s.now.p.now (registers_by ns c.args.s.now.registers.now) c.args.s.now.op.now in
    let k = c.requires.kind in
    subst (λ (y : StepKind). Adds ns (step_needs false ss c.args.s.now.op.now y) c.args.asked.now c.args.asked.now) (sym k.2)
    (subst (λ (needs : List Need). Adds ns needs c.args.asked.now c.args.asked.now) (sym (no_size false ss c.args.s.now.op.now k.0 k.1 (sym c.is_malloc.ensures ∙ c.if-not-is_malloc.true)))
    (adds_none ns c.args.asked.now))

pub operand-requires-clause-asked : goal.operand-requires-clause-asked
operand-requires-clause-asked c = malloc_asked c.args.s.now.op.now (sym c.is_malloc.ensures ∙ c.if-not-is_malloc.false)

pub step_needs-requires : goal.step_needs-requires
step_needs-requires c = subst (λ (k : StepKind). AreEnough c.args.s.now.op.now k 1) (sym c.requires.kind.2) (λ h. omega arith)

pub returns-clause-adds : goal.returns-clause-adds
returns-clause-adds c = λ ns g.
    let p = c.args.s.now.p.now in
    let o = c.args.s.now.op.now in
    let s = c.in_ok-size.size in
    let regs = c.args.s.now.registers.now in
    let first = c.args.nodes.now in
    let second = c.operand.new.nodes in
    let k = c.requires.kind in
    let is = is_later second ns s g c.in_ok-size.ensures.is in
    let e = later (λ (rs : List Symbolic). operand_at p rs o 0) first second ns s regs c.operand.ensures.grew g c.in_ok-size.ensures.is c.requires.symbolic_nodes c.in_ok-size.ensures.value in
    subst (λ (y : StepKind). Adds ns (step_needs false (operand_symbolics p (registers_by ns regs) o) o y) c.args.asked.now c.step_needs.new.asked) (sym k.2)
    (subst (λ (needs : List Need). Adds ns needs c.args.asked.now c.step_needs.new.asked) (size_same false (symbolic_by ns s) (operand_symbolics p (registers_by ns regs) o) o k.0 k.1 e)
    (subst (λ (y : StepKind). Adds ns (step_needs false (symbolic_by ns s ∷ []) o y) c.args.asked.now c.step_needs.new.asked) k.2 (c.in_ok-step_needs.ensures ns (is, tt))))
