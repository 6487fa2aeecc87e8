use Rattle.std.proofs.Common.{map}
use Rattle.pg_slice_memory.specs.pg_slice_values.SymbolicNodes.{symbolic_by}
use Rattle.pg_slice_checks.specs.Steps.{bounds_needs, value_needs}
use Rattle.pg_slice_checks.proofs.OneNeedMore.{adds_then}
use Rattle.pg_slice_checks.proofs.step.step_needs.Goals as goal

pub returns : goal.returns
returns c = λ ns h.
    let ss = map (symbolic_by ns) c.args.operands.now in
    adds_then ns (value_needs c.args.fixed ss c.args.op.now c.args.kind.now) (bounds_needs ss c.args.op.now c.args.kind.now) c.args.asked.now c.value_needs.new.asked c.bounds_needs.new.asked
    (c.in_ok-value_needs.ensures ns h) (c.in_ok-bounds_needs.ensures ns h)
