use Rattle.std.proofs.Common.{map, ◌∷◌, [], ◌≡◌, sym, subst, arith, length, slice_index}
use Rattle.pg_precondition.specs.declared.check.Test.TheVariants as test
use Rattle.pg_slice_memory.specs.pg_slice_rules.Rules.{Value}
use Rattle.pg_slice_memory.specs.pg_slice_values.SymbolicNodes.{symbolic_by}
use Rattle.pg_slice_checks.specs.Asks.{Adds}
use Rattle.pg_slice_checks.specs.Steps.{at, below, equal_needs}
use Rattle.pg_slice_checks.proofs.OneNeedMore.{adds_then}
use Rattle.pg_slice_checks.proofs.EventOperands.{below_more}
use Rattle.pg_slice_checks.proofs.step.equal_needs.Goals as goal

pub loop-k-preserved : goal.loop-k-preserved
loop-k-preserved c = λ ns h.
    let ss = map (symbolic_by ns) c.args.operands.now in
    let e = c.args.event.now in
    let k = c.loop-k.k in
    let one = subst (λ s. Adds ns (Value s (test.Eq (slice_index e.operands k) ∷ []) ∷ []) c.loop-k.asked c.need_value.new.self) (sym (c.operand.ensures.value ns))
    (c.in_ok-need_value.ensures ns (c.operand.ensures.is (length ns) h)) in
    subst (λ l. Adds ns l c.args.asked.now c.need_value.new.self) (sym (below_more ss e k))
    (adds_then ns (equal_needs ss e (below k)) (Value (at ss k) (test.Eq (slice_index e.operands k) ∷ []) ∷ []) c.args.asked.now c.loop-k.asked c.need_value.new.self (c.loop-k.invariant ns h) one)

pub returns : goal.returns
returns c = λ ns h.
    let q : c.loop-k.k ≡ c.args.count = omega (arith, c.loop-k.auto.k-end, c.loop-k-test.false) in
    rw (sym q) (c.loop-k.invariant ns h)
