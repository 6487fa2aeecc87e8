use Rattle.std.proofs.Common.{map, ap, subst, sym, ◌∙◌}
use Rattle.pg_slice_memory.specs.pg_slice_values.SymbolicNodes.{symbolic_by}
use Rattle.pg_slice_checks.specs.Asks.{Adds}
use Rattle.pg_slice_checks.specs.Steps.{equal_needs}
use Rattle.pg_slice_checks.proofs.EventOperands.{enough, event_by, few}
use Rattle.pg_slice_checks.proofs.step.event_needs.Goals as goal

pub equal_needs-requires-clause-few : goal.equal_needs-requires-clause-few
equal_needs-requires-clause-few c = few c.args.op.now c.checked_of-count.result c.checked_of-count.ensures

pub equal_needs-requires-clause-enough : goal.equal_needs-requires-clause-enough
equal_needs-requires-clause-enough c = enough c.args.op.now c.checked_of-count.result _ c.checked_of-count.ensures c.requires

pub returns : goal.returns
returns c = λ ns h.
    let ss = map (symbolic_by ns) c.args.operands.now in
    let other = sym c.is_start.ensures ∙ c.if-is_start.false in
    subst (λ l. Adds ns l c.args.asked.now c.equal_needs.new.asked)
    (sym (event_by ss c.args.op.now c.args.event.now c.args.event.now.kind other ∙ ap (λ ks. equal_needs ss c.args.event.now ks) c.checked_of-count.ensures)) (c.in_ok-equal_needs.ensures ns h)
