use Rattle.std.proofs.Common.{map, ap, subst, sym, ◌∙◌, ◌∷◌, [], length}
use Rattle.pg_precondition.specs.declared.check.Test.TheVariants as test
use Rattle.pg_slice_memory.specs.pg_slice_rules.Rules.{Value, address_index, edge_tests}
use Rattle.pg_slice_memory.specs.pg_slice_values.SymbolicNodes.{symbolic_by}
use Rattle.pg_slice_checks.specs.Asks.{Adds}
use Rattle.pg_slice_checks.specs.Steps.{at}
use Rattle.pg_slice_checks.proofs.AskedByCases.{or_either}
use Rattle.pg_slice_checks.proofs.step.value_needs.Goals as goal

pub returns-in_ok-branch_needs-in-Branch : goal.returns-in_ok-branch_needs-in-Branch
returns-in_ok-branch_needs-in-Branch c = λ ns h.
    rw c.in-Branch.is (rw c.if-fixed.true (subst (λ s. Adds ns (Value s (edge_tests c.args.op.now c.in-Branch.condition) ∷ []) c.args.asked.now c.branch_needs.new.asked)
    (sym (c.operand.ensures.value ns))
    (c.in_ok-branch_needs-in-Branch.ensures ns (c.operand.ensures.is (length ns) h))))

pub returns-in_ok-need_value-in-Access : goal.returns-in_ok-need_value-in-Access
returns-in_ok-need_value-in-Access c = λ ns h.
    rw c.in-Access.is (rw (or_either c.in-Access.access.event c.args.fixed c.then-access.either)
    (subst (λ s. Adds ns (Value s (test.Eq c.in-Access.access.pointer ∷ []) ∷ []) c.args.asked.now c.need_value.new.self)
    (sym (ap (λ k. at (map (symbolic_by ns) c.args.operands.now) k) (sym c.address_index.ensures) ∙ c.operand-at.ensures.value ns))
    (c.in_ok-need_value-in-Access.ensures ns (c.operand-at.ensures.is (length ns) h))))

pub returns-in_ok-need_value-in-Allocation : goal.returns-in_ok-need_value-in-Allocation
returns-in_ok-need_value-in-Allocation c = λ ns h.
    rw c.in-Allocation.is (rw (sym c.is_malloc.ensures ∙ c.if-is_malloc.true)
    (subst (λ s. Adds ns (Value s (test.Eq c.in-Allocation.size ∷ []) ∷ []) c.args.asked.now c.need_value-then-is_malloc.new.self) (sym (c.operand-then-is_malloc.ensures.value ns))
    (c.in_ok-need_value-in-Allocation.ensures ns (c.operand-then-is_malloc.ensures.is (length ns) h))))

pub returns-in_ok-event_needs-in-Event : goal.returns-in_ok-event_needs-in-Event
returns-in_ok-event_needs-in-Event c = λ ns h. rw c.in-Event.is (c.in_ok-event_needs-in-Event.ensures ns h)
